use Rattle.qspin_queue.specs.SpinQueueHandles.{IsApart}
use Rattle.lock_tests.proofs.nest_tests.sees.Given as goal

abbrev pub invariant-loop : goal.invariant-loop
invariant-loop l = IsApart l.site l.pass
