use Rattle.std.proofs.Common.{◌≡◌, All, length}
use Rattle.qspin_queue.specs.SpinQueueHandles.{IsApartIdle}
use Rattle.lock_tests.proofs.nest_tests.four_at_once.Given as goal

abbrev pub invariant-loop : goal.invariant-loop
invariant-loop g l =
    IsApartIdle l.site l.first
    × All (λ p. IsApartIdle l.site p) l.passes.items
    × (length l.passes.items ≡ l.counter)
