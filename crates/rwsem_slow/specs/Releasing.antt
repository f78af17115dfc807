-- How a call on a semaphore ends a hold, or lowers it.
use Rattle.std.specs.Prelude.{◌≡◌, ℕ, ◌+◌, ◌<◌, ◌≤◌}
use Rattle.rwsem_slow.specs.Types.{Held}
use Rattle.lock_core.specs.Shown.{Shown, FindsAtStep, LeavesHold}
use Rattle.rwsem_wake.specs.RwSemViews.{V, count_at}

-- all but the spin lock, and what it knows of the list and the semaphore, is as before, and it has taken the wait lock once
pub record WentThrough (v u : V) : Type 0 where
  pub hand : u.hand ≡ v.hand
  pub entries : u.spin.entries ≡ v.spin.entries + 1
  pub fronts : u.fronts ≡ v.fronts
  pub appends : u.ext.appends ≡ v.ext.appends

-- the call's step of this number found this count, and left the pass with this hold; each of its steps before left the pass with the hold that it had
abbrev pub TurnsHold : Held → (step n : ℕ) → Shown → Shown → Type 0
TurnsHold held step n v u = (v.steps < step) × (step ≤ u.steps) × ((f : FindsAtStep step count_at n v u) × (f.by.hand.held ≡ held)) × ((s : ℕ) → v.steps < s → s < step → LeavesHold s v.hand.held v u)

-- The step of the call that left the pass with this hold took so much from the count, and added so much. The call goes through the wait lock once where the count that this left has waiters to be
-- woken, and else not at all.
pub record LeavesCount (wakes : ℕ → Type 0) (held : Held) (less more : ℕ) (v u : Shown) : Type 0 where
  pub found : (step n : ℕ) × TurnsHold held step n v u × (u.hand.freed + less ≡ n + more)
  pub woken : wakes u.hand.freed → u.spin.entries ≡ v.spin.entries + 1
  pub spared : (wakes u.hand.freed → ⊥) → u.spin.entries ≡ v.spin.entries
