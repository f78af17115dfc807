-- Whom a call on a semaphore wakes, by the wake words that it sets.
use Rattle.std.specs.Prelude.{◌≡◌, ◌≢◌, ℕ, ◌+◌, ◌*◌, ◌/◌, ◌<◌, ◌≤◌, ◌%◌, ◌^◌, ◌⊎◌, Bool, true, false, List, [], length, Some}
use Rattle.cpu_task.specs.CpuCounting.{slept}
use Rattle.lock_core.specs.Shown.{Shown, FindsAtStep, FindsSince}
use Rattle.lock_core.specs.Records.{bit}
use Rattle.wait_list.specs.Lists.{first_code, without}
use Rattle.rwsem_wake.specs.Batches.{starts_with_reader}
use Rattle.rwsem_wake.specs.RwSemViews.{count_at, list_at}
use Rattle.rwsem_wake.specs.RwSemWakes.{SawWriter, kind_at, woken_of}
use Rattle.rwsem_slow.specs.Leaving.{WakesOn}
use Rattle.rwsem_slow.specs.Releasing.{TurnsHold}
use Rattle.rwsem_slow.specs.Types.{Held, Waiter, WakeType, ReadOwned}

-- These are the tasks that a wake of this kind wakes of a list. A step since found the code of that list's first waiter. Where a reader is first and the wake reserves a bias of its own, its look at
-- the count said whether there was a writer.
pub record WakesOf (kind : WakeType) (woken : List ℕ) (v u : Shown) : Type 0 where
  pub was : List Waiter
  pub first : FindsSince list_at (first_code was) v u
  pub written : Bool
  pub owned : kind ≡ ReadOwned → written ≡ false
  pub saw : kind ≢ ReadOwned → starts_with_reader was ≡ true → SawWriter written v u
  pub woken_are : woken ≡ woken_of kind written was

-- from the first count to the second the pass has set as many wake words as there are such tasks
pub record WakesWaiting (kind : WakeType) (wakes wakes' : ℕ) (v u : Shown) : Type 0 where
  pub woken : List ℕ
  pub wakes_of : WakesOf kind woken v u
  pub set : wakes' ≡ slept (length woken) wakes

-- the pass as it showed itself, but with this count of steps: a step since then is one behind the step of this number
abbrev pub behind : (step : ℕ) → Shown → Shown
behind step v = record v { steps = step }

-- Where the count that the call left asks for a wake, it has set as many wake words by what it found behind the step that left the pass with this hold. Else no wake word is set.
pub record WakesIf (asks : ℕ → Type 0) (held : Held) (kind : WakeType) (wakes wakes' : ℕ) (v u : Shown) : Type 0 where
  pub woken : asks u.hand.freed → (step n : ℕ) × TurnsHold held step n v u × WakesWaiting kind wakes wakes' (behind step v) u
  pub spared : (asks u.hand.freed → ⊥) → wakes' ≡ wakes

-- a reader holds by a bias that is the only one of this count, which says that tasks wait
abbrev pub IsFirstBias : ℕ → Type 0
IsFirstBias left = (left % 2 ^ 63 / 256 ≡ 1) × (left / 2 % 2 ≡ 1)

-- a step since found that the pass's own task is the first waiter
abbrev pub FindsItselfFirst : Shown → Shown → Type 0
FindsItselfFirst v u = (t : ℕ) × (v.hand.task ≡ Some t) × FindsSince list_at (t + 1) v u

-- a task that queued is the first waiter, and has set no wake word; or a step since found a count: where that has no writer the task has woken others so, else nobody
abbrev pub WakesOthers : (wakes wakes' : ℕ) → Shown → Shown → Type 0
WakesOthers wakes wakes' v u = (FindsItselfFirst v u × (wakes' ≡ wakes))
    ⊎ ((n : ℕ) × FindsSince count_at n v u × (n % 2 ≡ 0 → WakesWaiting (kind_at n) wakes wakes' v u) × (n % 2 ≡ 1 → wakes' ≡ wakes))

-- Before the call's step of this number the count was this one and 256 more, less 2 where the reader stood alone in the list. So a reader's bias is gone from it, and in the latter case WAITERS is
-- set.
abbrev pub FindsOneBiasMore : (alone : Bool) → (step left : ℕ) → Shown → Shown → Type 0
FindsOneBiasMore alone step left v u = (v.steps < step) × (step ≤ u.steps) × (n : ℕ) × FindsAtStep step count_at n v u × (left + 256 ≡ n + 2 * bit alone)

-- A reader that queued is to wake these tasks. A step of the call found a count with one bias more than this one. Where this one has no writer, they are those of a wake at it, by what the call found
-- behind that step. Else they are none.
pub record WakesQueued (alone : Bool) (woken : List ℕ) (v u : Shown) : Type 0 where
  pub step : ℕ
  pub left : ℕ
  pub back : FindsOneBiasMore alone step left v u
  pub others : left % 2 ≡ 0 → WakesOf (kind_at left) woken (behind step v) u
  pub nobody : left % 2 ≡ 1 → woken ≡ []

-- A task that leaves the list wakes these of it. A step since found the code of the list's first waiter. Where that is the task itself, a step found the code of the first of the others too, and these
-- are those that a wake of any waiter wakes of the others. Else nobody.
pub record WakesLeft (woken : List ℕ) (v u : Shown) : Type 0 where
  pub task : ℕ
  pub mine : v.hand.task ≡ Some task
  pub was : List Waiter
  pub first : FindsSince list_at (first_code was) v u
  pub next : first_code was ≡ task + 1 → FindsSince list_at (first_code (without task was)) v u
  pub others : first_code was ≡ task + 1 → WakesOn (without task was) woken v u
  pub nobody : first_code was ≢ task + 1 → woken ≡ []

-- it has set as many wake words
abbrev pub WakesAsItLeft : (wakes wakes' : ℕ) → Shown → Shown → Type 0
WakesAsItLeft wakes wakes' v u = (woken : List ℕ) × WakesLeft woken v u × (wakes' ≡ slept (length woken) wakes)
