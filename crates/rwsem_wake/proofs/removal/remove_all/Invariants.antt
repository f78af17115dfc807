use Rattle.std.proofs.Common.{◌≡◌}
use Rattle.lock_core.specs.SitePasses.{Sits}
use Rattle.lock_core.specs.Pasts.{GoesOn, IsOwnStep}
use Rattle.rwsem_wake.specs.Removals.{HasRemoved}
use Rattle.rwsem_wake.proofs.removal.remove_all.Given as goal

abbrev pub invariant-loop-task : goal.invariant-loop-task
invariant-loop-task g l = record {
  own : Sits l.site.table.shared.key l.site.table.shared.table_id l.pass.seat.table_id l.pass.seat.me l.pass.face;
  face : l.pass.face ≡ l.fn.pass.face;
  goes_on : GoesOn l.fn.pass.seat.me.0.past l.pass.seat.me.0.past;
  last : IsOwnStep l.pass.seat.me.0.view l.pass.seat.me.0.past;
  removed : HasRemoved l.fn.pass.seat.me.0.view l.batch l.task-index l.pass.seat.me.0.view;
}
