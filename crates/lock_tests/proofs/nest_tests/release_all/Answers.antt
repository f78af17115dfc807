use Rattle.std.proofs.Common.{◌∙◌, arith}
use Rattle.qspin_queue.proofs.Interrupting.{freed-else}
use Rattle.lock_tests.proofs.nest_tests.release_all.Goals as goal

pub unlock_at-requires-2-clause-held : goal.unlock_at-requires-2-clause-held
unlock_at-requires-2-clause-held c = freed-else 2 0 c.args.pass.now c.unlock_at.new.pass (λ e. omega (arith, e)) c.unlock_at.ensures.kept ∙ c.requires.holds.outer

pub unlock_at-requires-3-clause-held : goal.unlock_at-requires-3-clause-held
unlock_at-requires-3-clause-held c = freed-else 0 1 c.unlock_at.new.pass c.unlock_at-2.new.pass (λ e. omega (arith, e)) c.unlock_at-2.ensures.kept ∙ (freed-else 2 1 c.args.pass.now c.unlock_at.new.pass (λ e. omega (arith, e)) c.unlock_at.ensures.kept ∙ c.requires.holds.inner)
