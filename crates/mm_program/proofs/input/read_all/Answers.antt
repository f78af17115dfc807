use Rattle.std.proofs.Common.{take, arith}
use Rattle.std.proofs.lemmas.Grind.{common_steps}
use Rattle.mm_program.proofs.Inputs.{taken_more}
use Rattle.mm_program.proofs.input.read_all.Goals as goal

pub returns-in_err-map_err-clause-taken : goal.returns-in_err-map_err-clause-taken
returns-in_err-map_err-clause-taken g c =
    let left = g.S.Source.left in
    taken_more (left c.args.source.now) (left c.loop-piece.source) (left c.read.new.self) c.loop-piece.all.items (take c.in-Ok.count c.read.new.into) c.loop-piece.invariant.bytes c.in-Ok.ensures.bytes.0 (grind (arith, common_steps))
