use Rattle.std.proofs.Common.{ap, arith, length, refl, suc, ℕ, ◌≡◌}
use Rattle.osq_nodes.specs.Words.{tail_at}
use Rattle.osq_nodes.specs.OsqSteps.{swap_place, IsCodeOrNone}
use Rattle.osq_nodes.specs.Types.{Swap, Cleared}
use Rattle.osq_nodes.proofs.Owning.{kept-by, moves-by}
use Rattle.osq_nodes.proofs.Locals
use Rattle.osq_nodes.proofs.steps.swap_tail.Goals as goal

pub step-requires-clause-keeps : goal.step-requires-clause-keeps
step-requires-clause-keeps c = moves-by (length c.args.osq.now.site.table.shared.key) c.args.task c.args.pass.now.pass.face.task Cleared c.args.pass.now.pass.seat.me.0.view.ext.place tail_at tail_at (Swap (suc c.args.task)) (Swap c.code.result) swap_place swap_place (IsCodeOrNone (length c.args.osq.now.site.table.shared.key))
    c.requires.mine c.requires.here refl (ap (λ (x : ℕ). Swap x) (let e : suc c.args.task ≡ c.code.result = omega (arith, c.code.ensures) in e)) refl (Locals.swaps-tail (length c.args.osq.now.site.table.shared.key) c.args.task)

pub returns-clause-kept : goal.returns-clause-kept
returns-clause-kept c = kept-by c.args.pass.now.pass.seat.me.0.view c.step.new.pass.pass.seat.me.0.view Cleared (λ p n. swap_place n) c.step.result c.step.ensures.kept c.requires.here
