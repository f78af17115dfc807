use Rattle.std.proofs.Common.{◌≡◌, ◌+◌, length}
use Rattle.lock_core.specs.Plans.{calls_in}
use Rattle.lock_core.specs.Records.{IsPlan}
use Rattle.plan_runs.proofs.plans.plan_with.Given as goal

abbrev pub invariant-loop-row : goal.invariant-loop-row
invariant-loop-row g l =
    (length l.plan ≡ l.tasks)
    × (calls_in l.plan + l.room ≡ 131072)
    × IsPlan g.O.Object.object l.plan
