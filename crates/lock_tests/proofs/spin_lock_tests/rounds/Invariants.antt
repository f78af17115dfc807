use Rattle.std.proofs.Common.{◌≡◌}
use Rattle.lock_core.specs.SiteHandles.{hand_in}
use Rattle.qspin_queue.specs.SpinQueueHandles.{IsReady}
use Rattle.lock_tests.proofs.spin_lock_tests.rounds.Given as goal

abbrev pub invariant-loop : goal.invariant-loop
invariant-loop g l = record {
  ready : IsReady l.site l.pass;
  hand : hand_in l.pass ≡ hand_in l.initial.pass;
}
