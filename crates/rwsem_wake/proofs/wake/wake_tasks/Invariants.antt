use Rattle.std.proofs.Common.{◌≡◌}
use Rattle.lock_core.specs.SitePasses.{Sits}
use Rattle.lock_core.specs.Pasts.{GoesOn}
use Rattle.rwsem_wake.specs.RwSemPlaces.{AreCounts}
use Rattle.rwsem_wake.specs.RwSemWakes.{HasSet}
use Rattle.rwsem_wake.proofs.wake.wake_tasks.Given as goal

abbrev pub invariant-loop-task : goal.invariant-loop-task
invariant-loop-task g l = record {
  own : Sits l.site.table.shared.key l.site.table.shared.table_id l.pass.seat.table_id l.pass.seat.me l.pass.face;
  face : l.pass.face ≡ l.fn.pass.face;
  goes_on : GoesOn l.fn.pass.seat.me.0.past l.pass.seat.me.0.past;
  counted : AreCounts l.counts l.pass.seat.me.0.view;
  set : HasSet l.tasks l.task-index l.fn.pass.seat.me.0.view l.pass.seat.me.0.view;
}
