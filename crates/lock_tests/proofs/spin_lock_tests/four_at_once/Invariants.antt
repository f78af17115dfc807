use Rattle.std.proofs.Common.{◌≡◌, All, length}
use Rattle.qspin_queue.specs.SpinQueueHandles.{IsIdle}
use Rattle.lock_tests.proofs.spin_lock_tests.four_at_once.Given as goal

abbrev pub invariant-loop : goal.invariant-loop
invariant-loop g l =
    IsIdle l.site l.first
    × All (λ p. IsIdle l.site p) l.passes.items
    × (length l.passes.items ≡ l.counter)
