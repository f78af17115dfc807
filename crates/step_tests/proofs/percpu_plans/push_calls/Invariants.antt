use Rattle.std.proofs.Common.{◌≡◌, ◌≢◌, ◌+◌, ℕ, length}
use Rattle.lock_core.specs.Plans.{calls_in}
use Rattle.lock_core.specs.Records.{row, IsPlan}
use Rattle.vma_map.specs.Spaces.{space}
use Rattle.step_tests.specs.TestPercpuPasses.{Repeats}
use Rattle.step_tests.proofs.percpu_plans.push_calls.Given as goal

abbrev pub invariant-loop : goal.invariant-loop
invariant-loop l =
    (length l.plan ≡ length l.fn.plan)
    × (calls_in l.plan ≡ calls_in l.fn.plan + l.counter)
    × IsPlan space l.plan
    × (length (row l.plan l.task) ≡ l.counter)
    × Repeats l.plan l.task l.counter l.words
    × ((t : ℕ) → t ≢ l.task → row l.plan t ≡ row l.fn.plan t)
