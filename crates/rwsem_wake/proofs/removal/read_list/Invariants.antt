use Rattle.std.proofs.Common.{◌≡◌, ◌-◌, ◌≤◌, length}
use Rattle.word_bits.specs.declared.TheConstants.{MAX_TASKS}
use Rattle.lock_core.specs.SitePasses.{Sits}
use Rattle.lock_core.specs.Pasts.{GoesOn, IsOwnStep}
use Rattle.wait_list.specs.Lists.{AreAmong, only_steps}
use Rattle.rwsem_wake.specs.Removals.{IsAlong}
use Rattle.rwsem_wake.proofs.removal.read_list.Given as goal

abbrev pub invariant-walk : goal.invariant-walk
invariant-walk g l = record {
  own : Sits l.site.table.shared.key l.site.table.shared.table_id l.pass.seat.table_id l.pass.seat.me l.pass.face;
  face : l.pass.face ≡ l.fn.pass.face;
  goes_on : GoesOn l.fn.pass.seat.me.0.past l.pass.seat.me.0.past;
  latest : IsOwnStep l.pass.seat.me.0.view l.pass.seat.me.0.past;
  later : l.fn.pass.seat.me.0.view.steps ≤ l.pass.seat.me.0.view.steps;
  kept : only_steps l.fn.pass.seat.me.0.view l.pass.seat.me.0.view;
  along : IsAlong l.fn.pass.seat.me.0.view.ext.list.list l.waiters.items l.last;
  few : AreAmong (length l.site.table.shared.key) l.waiters.items;
}

abbrev pub decreases-walk : goal.decreases-walk
decreases-walk g l = MAX_TASKS - length l.waiters.items
