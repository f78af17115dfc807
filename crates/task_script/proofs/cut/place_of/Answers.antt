-- The first place of a byte is its position.
use Rattle.std.proofs.Common.{◌==◌, ℕ}
use Rattle.task_script.proofs.Cutting.{first_place}
use Rattle.task_script.proofs.cut.place_of.Goals as goal

pub returns-clause-place : goal.returns-clause-place
returns-clause-place c = first_place (λ (b : ℕ). b == c.args.at) c.args.bytes.now c.memchr.result c.memchr.ensures
