use Rattle.std.proofs.Common.{◌≡◌, ◌+◌, length}
use Rattle.lock_core.specs.Plans.{calls_in}
use Rattle.lock_core.specs.Records.{IsPlan}
use Rattle.plan_runs.proofs.plans.push_calls.Given as goal

abbrev pub invariant-loop : goal.invariant-loop
invariant-loop g l =
    (length l.plan ≡ length l.fn.plan)
    × (calls_in l.plan ≡ calls_in l.fn.plan + l.counter)
    × IsPlan g.O.Object.object l.plan
