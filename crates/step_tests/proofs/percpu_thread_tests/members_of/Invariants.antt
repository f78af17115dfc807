use Rattle.std.proofs.Common.{◌≡◌, All, length}
use Rattle.step_tests.specs.TestPercpuPasses.{IsIdle}
use Rattle.step_tests.proofs.percpu_thread_tests.members_of.Given as goal

abbrev pub invariant-loop-task : goal.invariant-loop-task
invariant-loop-task l =
    IsIdle l.lock l.first
    × All (λ m. IsIdle l.lock m.0) l.members.items
    × (length l.members.items ≡ l.task)
