-- What the steps of a call tell it of signals.
use Rattle.std.proofs.Common.{◌≡◌, ℕ, ◌+◌, sym, ap, ◌∙◌, arith}
use Rattle.lock_core.specs.Signals.{HearsOfBoth}
use Rattle.lock_core.specs.Types.{Heard, View}
use Rattle.lock_core.specs.Views.{handed, hearing, ticked}

-- a load of the signals that were sent, and one of those that were consumed
pub hears-both : {E : Type 0} (v w u : View E) (sent taken : ℕ) (p : Heard) → p.sent ≡ sent → taken ≡ p.taken → w ≡ handed v (hearing v.hand p) → u ≡ ticked w → HearsOfBoth (record { sent = sent; taken = taken }) v u
hears-both v w u sent taken p sent_is taken_is first next = next ∙ (ap ticked first ∙ (λ i. record v { hand = hearing v.hand (record { sent = sent_is i; taken = sym taken_is i }); steps = two i }))
  where
    two : v.steps + 1 + 1 ≡ v.steps + 2
    two = omega arith
