use Rattle.std.proofs.Common.{arith, length, refl, suc, sym, ◌≡◌}
use Rattle.osq_nodes.specs.Words.{code_in, tail_at}
use Rattle.osq_nodes.specs.OsqSteps.{try_place}
use Rattle.osq_nodes.specs.OsqPlaces.{waits_at}
use Rattle.osq_nodes.specs.Types.{Exchange, Out}
use Rattle.osq_nodes.proofs.Owning.{moves-by}
use Rattle.osq_nodes.proofs.Locals
use Rattle.osq_nodes.proofs.steps.leave_tail.Goals as goal

pub step-requires-clause-keeps : goal.step-requires-clause-keeps
step-requires-clause-keeps c = moves-by (length c.args.osq.now.site.table.shared.key) c.args.task c.args.pass.now.pass.face.task (waits_at c.args.prev) c.args.pass.now.pass.seat.me.0.view.ext.place tail_at tail_at (Exchange (suc c.args.task) (code_in c.args.prev)) (Exchange c.code-own.result c.code_of.result) (try_place (waits_at c.args.prev) Out (suc c.args.task)) (try_place c.args.pass.now.pass.seat.me.0.view.ext.place Out c.code-own.result) (λ _. Unit {0})
    c.requires.mine c.requires.here refl (λ i. Exchange ((let e : suc c.args.task ≡ c.code-own.result = omega (arith, c.code-own.ensures) in e) i) (sym c.code_of.ensures i)) (λ i. try_place (sym c.requires.here i) Out ((let e : suc c.args.task ≡ c.code-own.result = omega (arith, c.code-own.ensures) in e) i)) (Locals.waits-leave (length c.args.osq.now.site.table.shared.key) c.args.task c.args.prev)
