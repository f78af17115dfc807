use Rattle.std.proofs.Common.{◌≡◌, ◌≤◌, drop}
use Rattle.lock_core.specs.SitePasses.{Sits}
use Rattle.lock_core.specs.Pasts.{GoesOn, IsOwnStep}
use Rattle.rwsem_wake.specs.Grants.{OnlySem, still_granting}
use Rattle.rwsem_wake.proofs.grants.grant_all.Given as goal

abbrev pub invariant-loop-task : goal.invariant-loop-task
invariant-loop-task g l = record {
  own : Sits l.site.table.shared.key l.site.table.shared.table_id l.pass.seat.table_id l.pass.seat.me l.pass.face;
  face : l.pass.face ≡ l.fn.pass.face;
  goes_on : GoesOn l.fn.pass.seat.me.0.past l.pass.seat.me.0.past;
  last : IsOwnStep l.pass.seat.me.0.view l.pass.seat.me.0.past;
  later : l.fn.pass.seat.me.0.view.steps ≤ l.pass.seat.me.0.view.steps;
  kept : OnlySem g.H.GrantHost.with_sem l.fn.pass.seat.me.0.view (still_granting (g.H.GrantHost.sem l.fn.pass.seat.me.0.view.ext) (drop l.task-index l.batch)) l.pass.seat.me.0.view;
}
