use Rattle.lock_bench.proofs.Planned.{HasPushed}
use Rattle.lock_bench.proofs.plan.push_faults.Given as goal

abbrev pub invariant-loop : goal.invariant-loop
invariant-loop l = HasPushed l.fn.plan l.task l.counter l.plan
