-- A pass of a lock that tasks sleep on, as the lock's callers see it, between two pairs and outside all.
use Rattle.std.specs.Prelude.{◌≡◌, ℕ, None, IsSome}
use Rattle.lock_core.specs.declared.view.Held.TheVariants.{No}
use Rattle.lock_core.specs.Shown.{Shown}

-- how often it has come to hold
abbrev pub takes_in : Shown → ℕ
takes_in v = v.hand.takes

-- it has a number, and neither holds nor owes anything
pub record IsBetween (v : Shown) : Type 0 where
  pub numbered : IsSome v.hand.task
  pub out : v.hand.held ≡ No
  pub sent : v.hand.sent ≡ None
  pub consumed : v.hand.consumed ≡ 0

-- it is one of the lock's, and has no number
pub record IsIdle (Sits : Type 0) (v : Shown) : Type 0 where
  pub own : Sits
  pub numberless : v.hand.task ≡ None
