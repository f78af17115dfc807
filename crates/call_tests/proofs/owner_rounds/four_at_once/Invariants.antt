use Rattle.std.proofs.Common.{◌≡◌, All, length}
use Rattle.call_tests.specs.OwnerStanding.{Idles}
use Rattle.call_tests.proofs.owner_rounds.four_at_once.Given as goal

abbrev pub invariant-loop : goal.invariant-loop
invariant-loop g l =
    Idles l.site l.first
    × All (λ p. Idles l.site p) l.passes.items
    × (length l.passes.items ≡ l.counter)
