-- What a pass has heard of signals to its task.
use Rattle.std.specs.Prelude.{◌≡◌, ◌+◌, ◌<◌, Some}
use Rattle.lock_core.specs.Types.{Interrupted, Hand, View}
use Rattle.lock_core.specs.Views.{hearing}

-- two loads, which are all that came between the two views, found that so many were sent, and so many consumed
abbrev pub HearsOfBoth : {E : Type 0} → Interrupted → View E → View E → Type 0
HearsOfBoth why v u = u ≡ record v { hand = hearing v.hand (record { sent = why.sent; taken = why.taken }); steps = v.steps + 2 }

-- they saw that more were sent than its task had consumed
pub record HearsOfSome {E : Type 0} (why : Interrupted) (v u : View E) : Type 0 where
  pub pending : why.taken < why.sent
  pub now : HearsOfBoth why v u

-- what it last heard is that so many were sent, and fewer consumed, and it has consumed none since
pub record HasHeard (why : Interrupted) (h : Hand) : Type 0 where
  pub pending : why.taken < why.sent
  pub heard : h.heard ≡ Some (record { sent = why.sent; taken = why.taken })

module _ {E : Type 0} where
  -- the hand is as before, but for what loads of its signals heard
  abbrev pub OnlyHeard : View E → View E → Type 0
  OnlyHeard v u = u.hand ≡ record v.hand { heard = u.hand.heard }

  -- the same, and it has consumed a signal to its task
  abbrev pub OnlyConsumed : View E → View E → Type 0
  OnlyConsumed v u = u.hand ≡ record v.hand { heard = u.hand.heard; consumed = v.hand.consumed + 1 }
