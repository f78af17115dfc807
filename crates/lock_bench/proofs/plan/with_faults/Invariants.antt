use Rattle.lock_bench.proofs.Planned.{HasFaultsBelow}
use Rattle.lock_bench.proofs.plan.with_faults.Given as goal

abbrev pub invariant-loop-task : goal.invariant-loop-task
invariant-loop-task l = HasFaultsBelow l.tasks l.count l.task l.plan
