use Rattle.std.proofs.Common.{◌≡◌, ◌+◌, ◌*◌, length}
use Rattle.lock_core.specs.Plans.{calls_in}
use Rattle.lock_core.specs.Records.{IsPlan}
use Rattle.vma_map.specs.Spaces.{space}
use Rattle.step_tests.proofs.faults_tests.planned.Given as goal

abbrev pub invariant-loop : goal.invariant-loop
invariant-loop l =
    (length l.plan ≡ 4)
    × (calls_in l.plan ≡ 2 + 6 * l.counter)
    × IsPlan space l.plan
