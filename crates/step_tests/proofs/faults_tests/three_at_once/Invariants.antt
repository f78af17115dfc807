use Rattle.std.proofs.Common.{◌≡◌, All, length}
use Rattle.step_tests.specs.SeqStanding.{IsIdle}
use Rattle.step_tests.proofs.faults_tests.three_at_once.Given as goal

abbrev pub invariant-loop : goal.invariant-loop
invariant-loop g l =
    IsIdle l.site l.first
    × All (λ p. IsIdle l.site p) l.passes.items
    × (length l.passes.items ≡ l.counter)
