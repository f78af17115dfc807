-- Where a pass stands that leaves the list before it holds.
use Rattle.std.specs.Prelude.{◌≡◌, ℕ, ◌≤◌, ◌⊎◌, ◌++◌, Bool, true, false, List, if◌then◌else◌}
use Rattle.lock_core.specs.Shown.{Shown}
use Rattle.rwsem_wake.specs.Batches.{starts_with_reader}
use Rattle.rwsem_wake.specs.SemParts.{apart_hand}
use Rattle.rwsem_wake.specs.RwSemViews.{V}
use Rattle.rwsem_slow.specs.Queued.{IsInLine, IsListed, waiting}
use Rattle.rwsem_slow.specs.Types.{Waiter, SemHand, Rest, Armed, Emptied, Summing, Reads, Writes, Absent, SemWake, Any}
use Rattle.rwsem_wake.specs.RwSemWakes.{SawWriter, woken_of}

-- a reader that waits has seen under the wait lock that it isn't granted
abbrev pub ungranted : SemHand
ungranted = record (waiting Reads) { stage = Armed }

-- it saw that, and all else is as before
abbrev pub SeesUngranted : V → V → Type 0
SeesUngranted v u = u ≡ record v { steps = u.steps; ext = record v.ext { sem = ungranted } }

-- it has seen that since it took the wait lock
pub record IsUngranted (v : V) : Type 0 where
  pub sem : v.ext.sem ≡ ungranted
  pub still : v.ext.list.changes ≡ false
  pub listed : IsListed v.ext.wake

-- who may leave the list under the wait lock: a writer that waits, and a reader that isn't granted
abbrev pub MayLeave : V → Type 0
MayLeave v = IsInLine Writes v ⊎ IsUngranted v

-- a waiter that is to leave as the first, when nobody is marked
pub record IsUnmarked (v : V) : Type 0 where
  pub sem : (v.ext.sem ≡ record (waiting Reads) { stage = Summing }) ⊎ (v.ext.sem ≡ record (waiting Writes) { stage = Summing })
  pub still : v.ext.list.changes ≡ false

-- it has left as the first, and the list is empty or not
abbrev pub gone_first : Bool → SemHand
gone_first empty = record apart_hand { stage = if empty then Emptied else Rest }

-- what it knows of wakes then: it has chosen these tasks too, is to look for nobody, and waits for nothing
abbrev pub left_wake : List ℕ → SemWake → SemWake
left_wake tasks b = record b { owing = false; chosen = b.chosen ++ tasks; wait_state = Absent }

-- it waits for nothing, has chosen these tasks too, and is to look for nobody; all but what it knows of the list and the semaphore is as before
pub record HasLeft (tasks : List ℕ) (v u : V) : Type 0 where
  pub later : v.steps ≤ u.steps
  pub apart : u.ext.sem ≡ apart_hand
  pub still : u.ext.list.changes ≡ false
  pub wake : u.ext.wake ≡ left_wake tasks v.ext.wake
  pub hand : u.hand ≡ v.hand
  pub spin : u.spin ≡ v.spin
  pub fronts : u.fronts ≡ v.fronts
  pub appends : u.ext.appends ≡ v.ext.appends

-- these tasks are woken of those that wait on: whom a wake of any waiter wakes, whose look at the count said whether there was a writer, where a reader is first
pub record WakesOn (rest : List Waiter) (woken : List ℕ) (v u : Shown) : Type 0 where
  pub written : Bool
  pub saw : starts_with_reader rest ≡ true → SawWriter written v u
  pub woken_are : woken ≡ woken_of Any written rest
