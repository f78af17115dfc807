-- What a wake does to its pass and to the list, and whom it wakes.
use Rattle.std.specs.Prelude.{◌≡◌, ◌≢◌, ℕ, ◌%◌, ◌/◌, ◌^◌, ◌==◌, ◌≤◌, Bool, true, false, List, [], ◌∷◌, drop, if◌then◌else◌}
use Rattle.lock_core.specs.Records.{bit}
use Rattle.lock_core.specs.Shown.{Shown, FindsSince}
use Rattle.lock_core.specs.SiteHandles.{view_of}
use Rattle.wait_list.specs.Lists.{Knows, first_code, list_part}
use Rattle.rwsem_count.specs.Counts.{shared_weight}
use Rattle.rwsem_wake.specs.Batches.{batch_of, starts_with_reader}
use Rattle.rwsem_wake.specs.declared.woken.Woken.{Woken}
use Rattle.rwsem_wake.specs.declared.woken.Woken.TheVariants.{Nobody, First, Batch}
use Rattle.rwsem_wake.specs.RwSemViews.{V, count_at, list_at, list_of, looked}
use Rattle.rwsem_wake.specs.RwSemPlaces.{seen_of}
use Rattle.cpu_task.specs.CpuCounting.{slept}
use Rattle.rwsem_wake.specs.Removals.{Chose, KnowsList, StaysBeside, without_all}
use Rattle.rwsem_wake.specs.Types.{Pass, Waiter, Clear, Rest, Apart, RwSemHand, WakeType, Any, Readers, ReadOwned}
use Rattle.rwsem_wake.specs.declared.batches.TheConstants.{MAX_READERS_WAKEUP}

-- how a task that queues wakes at this count, which no writer holds: readers alone where readers hold, else whoever may go on
abbrev pub kind_at : ℕ → WakeType
kind_at count = if (count % 2 ^ 63 / 256) == 0 then Any else Readers

-- it has no bias in the count, is about no batch, and changes no list
pub record IsAtRest (v : V) : Type 0 where
  pub stage : v.ext.sem.stage ≡ Rest
  pub clear : v.ext.sem.bias ≡ Clear
  pub none : v.ext.sem.rest ≡ []
  pub still : v.ext.list.changes ≡ false

-- A pass may wake so. One that holds shared and waits for nothing keeps writers out by its hold. Any other, which holds nothing shared, does so by a bias that it reserves. Who wakes readers alone
-- leaves a writer that is first to others, and so isn't to owe a wake.
abbrev pub MayWake : WakeType → V → Type 0
MayWake ReadOwned v = (shared_weight v.hand.held ≡ 1) × (v.ext.sem.wait ≡ Apart)
MayWake Readers v = (shared_weight v.hand.held ≡ 0) × (v.ext.wake.owing ≡ false)
MayWake Any v = shared_weight v.hand.held ≡ 0

-- the tasks that it names
abbrev pub woken_tasks : Woken → List ℕ
woken_tasks Nobody = []
woken_tasks (First task) = task ∷ []
woken_tasks (Batch tasks) = tasks.items

-- the list's batch
abbrev pub batch_in : List Waiter → List ℕ
batch_in q = batch_of MAX_READERS_WAKEUP q

-- the first waiter, where the wake is of the kind that wakes any
abbrev pub first_woken : WakeType → List Waiter → List ℕ
first_woken Any [] = []
first_woken Any (w ∷ q) = w.task ∷ []
first_woken Readers q = []
first_woken ReadOwned q = []

abbrev pub readers_woken : (written : Bool) → List Waiter → List ℕ
readers_woken written q = if written then [] else batch_in q

-- whom a wake wakes that finds this list: the batch, unless there is a writer; and of a list with a writer first that writer, where the wake is of the kind that wakes any
abbrev pub woken_of : WakeType → (written : Bool) → List Waiter → List ℕ
woken_of kind written q = if starts_with_reader q then readers_woken written q else first_woken kind q

-- the list that it leaves
abbrev pub left_of : (written : Bool) → List Waiter → List Waiter
left_of written q = if written then q else without_all (batch_in q) q

-- a step since found whether there was a writer
abbrev pub SawWriter : (written : Bool) → Shown → Shown → Type 0
SawWriter written v u = (n : ℕ) × FindsSince count_at n v u × (n % 2 ≡ bit written)

-- it has chosen these tasks too, and is to look for nobody
pub record HasChosenAll (tasks : List ℕ) (v u : V) : Type 0 where
  pub chose : Chose tasks v.ext.wake u.ext.wake
  pub clear : u.ext.wake.owing ≡ false

-- it has looked whom to wake, by a load of the head of the list that it knows
pub record Looks (v u : V) : Type 0 where
  pub later : v.steps ≤ u.steps
  pub is : u ≡ record v { steps = u.steps; ext = record v.ext { wake = looked true v.hand.held v.ext.list.list v.ext.wake } }

-- of these tasks, which it had chosen, it has set the wake words of so many, and all else is as before
pub record HasSet (tasks : List ℕ) (i : ℕ) (v u : V) : Type 0 where
  pub later : v.steps ≤ u.steps
  pub is : u ≡ record v { steps = u.steps; ext = record v.ext { wake = record v.ext.wake { chosen = drop i tasks; wakes = slept i v.ext.wake.wakes } } }

-- it has set the wake words of those that it had chosen, which were so many, and all else is as before
pub record SetsAll (many : ℕ) (v u : V) : Type 0 where
  pub later : v.steps ≤ u.steps
  pub is : u ≡ record v { steps = u.steps; ext = record v.ext { wake = record v.ext.wake { chosen = []; wakes = slept many v.ext.wake.wakes } } }

-- a wake has granted the batch of the list, which is then without it, unless there was a writer, and is at rest
pub record Grants (written : Bool) (v u : V) : Type 0 where
  pub beside : StaysBeside v u
  pub rests : IsAtRest u
  pub list : KnowsList u
  pub left : u.ext.list.list ≡ left_of written v.ext.list.list
  pub chosen : HasChosenAll (readers_woken written v.ext.list.list) v u

module _ {R O C : Type 0} where
  -- A wake of this kind has chosen these tasks, is to look for nobody, is at rest, and knows the list that it left. A look of it at the list's head found the code of the waiter that was first. Where
  -- a reader was first and the wake reserved a bias of its own, its look at the count said whether there was a writer.
  pub record Wakes (kind : WakeType) (woken : List ℕ) (old new : Pass R O RwSemHand C) : Type 0 where
    pub beside : StaysBeside (view_of old) (view_of new)
    pub rests : IsAtRest (view_of new)
    pub list : KnowsList (view_of new)
    pub was : List Waiter
    pub first : FindsSince list_at (first_code was) (seen_of old) (seen_of new)
    pub before : Knows (list_part list_of (view_of old)) → was ≡ (view_of old).ext.list.list
    pub written : Bool
    pub owned : kind ≡ ReadOwned → written ≡ false
    pub saw : kind ≢ ReadOwned → starts_with_reader was ≡ true → SawWriter written (seen_of old) (seen_of new)
    pub woken_are : woken ≡ woken_of kind written was
    pub left : (view_of new).ext.list.list ≡ left_of written was
    pub chosen : HasChosenAll woken (view_of old) (view_of new)
