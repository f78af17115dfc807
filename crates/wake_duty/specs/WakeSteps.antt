-- What the steps on wake words tell, and when they may be made.
use Rattle.std.specs.Prelude.{IsTrue, ◌↔◌, ◌≡◌, ℕ, ◌+◌, ◌*◌, ◌≤◌, Bool, List, Option, Some}
use Rattle.atomic_table.specs.Table.{Step}
use Rattle.wake_duty.specs.Types.{Moment, View, WaitState, Tried}
use Rattle.lock_core.specs.Pasts.{FoundAt}
use Rattle.lock_core.specs.SitePlays.{Sat, Turns}

-- its task is in the list, and a try of it failed under the wait lock since it last woke
abbrev pub HasTried : {E : Type 0} → (E → WaitState) → View E → Type 0
HasTried wait_state v = (e : ℕ) × (wait_state v.ext ≡ Tried e)

-- one step later it knows this beyond the site and the spin lock
abbrev pub knowing : {E : Type 0} → View E → E → View E
knowing v e = record v { steps = v.steps + 1; ext = e }

module _ {E : Type 0} (place : ℕ) (after_set : E → ℕ → E) where
  -- it set the wake word of a task
  abbrev pub Woke : Step (Unit {0}) → Sat E → ℕ → Sat E → Type 0
  Woke st m n m' = (t : ℕ) → st.word ≡ place + 8 * t → Turns m (knowing m.0 (after_set m.0.ext t)) m'

module _ {E : Type 0} (after_swap : E → ℕ → E) where
  -- it swapped its own wake word, which had this number, for 0
  abbrev pub Drowsed : Step (Unit {0}) → Sat E → ℕ → Sat E → Type 0
  Drowsed st m n m' = (n ≤ 1) × Turns m (knowing m.0 (after_swap m.0.ext n)) m'

  -- it swapped the wake word of its task for 0, and is asleep exactly where that was 0
  pub record FallsAsleep (place : ℕ) (v : View E) (task : Option ℕ) (asleep : Bool) (u : View E) (past : List Moment) : Type 0 where
    pub word : ℕ
    pub small : word ≤ 1
    pub view : u ≡ knowing v (after_swap v.ext word)
    pub found : (t : ℕ) → task ≡ Some t → FoundAt (place + 8 * t) word past
    pub tells : IsTrue asleep ↔ (word ≡ 0)
