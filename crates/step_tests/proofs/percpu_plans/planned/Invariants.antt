use Rattle.std.proofs.Common.{◌≡◌, ◌*◌, ◌<◌, ◌≤◌, ℕ, [], length}
use Rattle.lock_core.specs.Plans.{calls_in}
use Rattle.lock_core.specs.Records.{row, IsPlan}
use Rattle.vma_map.specs.Spaces.{space}
use Rattle.step_tests.specs.TestPercpuPasses.{Repeats}
use Rattle.step_tests.proofs.percpu_plans.planned.Given as goal

abbrev pub invariant-loop-task : goal.invariant-loop-task
invariant-loop-task l =
    (l.task ≤ 3)
    × (length l.plan ≡ 4)
    × (calls_in l.plan ≡ l.task * l.count)
    × IsPlan space l.plan
    × ((t : ℕ) → t < l.task → Repeats l.plan t l.count l.words)
    × ((t : ℕ) → l.task ≤ t → row l.plan t ≡ [])
