use Rattle.qspin_queue.specs.SpinQueueHandles.{IsReady}
use Rattle.lock_tests.proofs.spin_lock_tests.sees.Given as goal

abbrev pub invariant-loop : goal.invariant-loop
invariant-loop l = IsReady l.site l.pass
