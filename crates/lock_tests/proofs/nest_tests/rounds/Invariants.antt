use Rattle.qspin_queue.specs.SpinQueueHandles.{IsApart}
use Rattle.lock_tests.proofs.nest_tests.rounds.Given as goal

abbrev pub invariant-loop : goal.invariant-loop
invariant-loop g l = IsApart l.site l.pass
