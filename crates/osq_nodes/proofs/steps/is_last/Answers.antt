use Rattle.std.proofs.Common.{length, refl, sym}
use Rattle.osq_nodes.specs.Words.{tail_at}
use Rattle.osq_nodes.specs.OsqPlaces.{waits_at}
use Rattle.osq_nodes.specs.Types.{Load}
use Rattle.osq_nodes.proofs.Owning.{moves-by}
use Rattle.osq_nodes.proofs.Locals
use Rattle.osq_nodes.proofs.steps.is_last.Goals as goal

pub step-requires-clause-keeps : goal.step-requires-clause-keeps
step-requires-clause-keeps c = moves-by (length c.args.osq.now.site.table.shared.key) c.args.task c.args.pass.now.pass.face.task (waits_at c.args.prev) c.args.pass.now.pass.seat.me.0.view.ext.place tail_at tail_at Load Load (λ _. waits_at c.args.prev) (λ _. c.args.pass.now.pass.seat.me.0.view.ext.place) (λ _. Unit {0})
    c.requires.mine c.requires.here refl refl (λ i _. sym c.requires.here i) (Locals.looks (length c.args.osq.now.site.table.shared.key) c.args.task (waits_at c.args.prev) tail_at)
