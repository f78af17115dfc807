-- That no wake-up of a mutex is lost.
use Rattle.std.specs.Prelude.{◌≡◌, ◌≢◌, ℕ, ◌+◌, ◌%◌, ◌⊎◌, List, Some, None}
use mathlib.Core.Option.{some}
use lib.ListN.{get_elem?}
use Rattle.mutex_word.specs.Holders.{IsHolder}
use Rattle.wait_list.specs.Lists.{first_code}
use Rattle.wake_duty.specs.DutyWakes.{wake_word}
use Rattle.mutex_slow.specs.Mutexes.{Standing, wake_words}
use Rattle.mutex_slow.specs.MutexStated.{IsListed, StandsMarked}
use Rattle.mutex_slow.specs.Types.{Hand, Moment, Waiter}

-- A task that doesn't wait is to wake this waiter. It ended a hold, left WAITERS, and hasn't looked for a waiter since; or it has chosen this one, and hasn't set its wake word.
abbrev pub HasWaker : Moment → ℕ → Type 0
HasWaker m t = (id : ℕ) × (h : Hand) × (s : Standing) × (get_elem? m.hands id ≡ some h) × StandsMarked id s m × (h.task ≢ None) × (s.queued ≡ 0)
    × (((s.debt ≡ 1) × (h.freed % 2 ≡ 1)) ⊎ (s.chosen ≡ t + 1))

-- this waiter's own pass needs no wake: its wake word is set, or it is awake and tries before it sleeps
abbrev pub NeedsNoWake : Moment → ℕ → Type 0
NeedsNoWake m t = (id : ℕ) × (h : Hand) × (get_elem? m.hands id ≡ some h) × (h.task ≡ Some t)
    × ((wake_word (wake_words m.words) t ≡ 1) ⊎ ((s : Standing) × StandsMarked id s m × (s.awake ≡ 1)))

-- where nobody holds and this is the first waiter, some task is to wake it, or it needs no wake
abbrev pub LosesNoWake : Moment → List Waiter → Type 0
LosesNoWake m l = IsHolder m.hands None → (t : ℕ) → first_code l ≡ t + 1 → HasWaker m t ⊎ NeedsNoWake m t
