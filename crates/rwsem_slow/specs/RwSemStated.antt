-- What is so of a semaphore at each moment, and of each step.
use Rattle.std.specs.Prelude.{◌≡◌, ◌≢◌, ℕ, ◌+◌, ◌/◌, ◌%◌, ◌<◌, ◌≤◌, ◌⊎◌, true, List, [], ◌∷◌, ◌++◌, length, map, Some, None}
use mathlib.Core.Option.{some}
use lib.ListN.{get_elem?}
use Rattle.word_bits.specs.declared.TheConstants.{MAX_TASKS}
use Rattle.word_bits.specs.LockWords.{counted as shut}
use Rattle.word_bits.specs.Objects.{Obj}
use Rattle.word_bits.specs.Histories.{Plan}
use Rattle.lock_core.specs.Locked.{HasPass, IsSiteStep, IsWaitLockFree}
use Rattle.lock_core.specs.Shown.{IsLatestStep, Shown}
use Rattle.lock_core.specs.Spins.{holds_in}
use Rattle.lock_core.specs.SiteStated.{IsSiteThen}
use Rattle.lock_core.specs.Totals.{total}
use Rattle.wait_list.specs.Lists.{Allowed, IsList, Lists, changed, counted}
use Rattle.wake_duty.specs.DutyWakes.{wake_word}
use Rattle.rwsem_wake.specs.SemDuties.{times}
use Rattle.rwsem_wake.specs.SemParts.{SemPart, alone_of, apart_hand, busy_of, granted_of, reserve_of, rest_of, transit_of}
use Rattle.rwsem_wake.specs.Duties.{kept_of, overdue_of}
use Rattle.rwsem_wake.specs.GrantSemaphores.{Quiet}
use Rattle.rwsem_wake.specs.Handoffs.{KeepsHandoff, reads_as}
use Rattle.rwsem_wake.specs.GrantsStated.{OnlyFirst, Picks, StatesCount, StatesWaiters, over, readers}
use Rattle.rwsem_slow.specs.WakesGo.{WakesGo, wake_stands}
use Rattle.rwsem_wake.specs.RwSemViews.{IsDone, count_at}
use Rattle.rwsem_slow.specs.RwSems.{KeepsCount, count_in, entered, grants_in, list_words, marks_in, numbers_of, wake_words}
use Rattle.rwsem_slow.specs.Types.{Hand, SpinHand, Marks, Moment, No, Waiter, Change, Stay, Enter, Leave, Awake, SemWake, Clear, SemHand, Apart}

-- what a moment keeps of a pass that stands so, has appended itself so often, and has this of wakes
abbrev pub stance : SemHand → ℕ → SemWake → Marks
stance s appends b = record { numbers = numbers_of s appends b }

-- this moment marks the pass of this number as having this of wakes
abbrev pub WakesMarked : ℕ → SemWake → Moment → Type 0
WakesMarked id b m = (s : SemHand) × (appends : ℕ) × (get_elem? m.marks id ≡ some (stance s appends b))

-- a pass with a task's number owes a wake
abbrev pub SomebodyOwes : Moment → Type 0
SomebodyOwes m = (id : ℕ) × (h : Hand) × (b : SemWake) × (get_elem? m.hands id ≡ some h) × (h.task ≢ None) × WakesMarked id b m × (b.owing ≡ true)

-- a bias keeps writers out: that of a reader in transit, or one that a waker has reserved where there was no writer
abbrev pub SomebodyKeepsOut : List SemPart → Type 0
SomebodyKeepsOut ps = (id : ℕ) × (p : SemPart) × (get_elem? ps id ≡ some p) × (1 ≤ kept_of p)

-- this task needs no further wake: a pass has chosen it, and hasn't set its wake word yet; or that word is set; or it is awake, and tries or loads its grant word before it sleeps
abbrev pub IsBeingWoken : Moment → ℕ → Type 0
IsBeingWoken m t = ((id : ℕ) × (h : Hand) × (b : SemWake) × (get_elem? m.hands id ≡ some h) × (h.task ≢ None) × WakesMarked id b m × (1 ≤ times t b.chosen))
    ⊎ (wake_word (wake_words m.words) t ≡ 1)
    ⊎ ((id : ℕ) × (h : Hand) × (b : SemWake) × (get_elem? m.hands id ≡ some h) × (h.task ≡ Some t) × WakesMarked id b m × (b.wait_state ≡ Awake))

-- what concerns the semaphore of the pass of this number, as the moment has it
pub record IsPartThen (m : Moment) (id : ℕ) (h : Hand) (p : SemPart) : Type 0 where
  pub task : p.task ≡ h.task
  pub held : p.held ≡ h.held
  pub appends : ℕ
  pub wake : SemWake
  pub marked : get_elem? m.marks id ≡ some (stance p.sem appends wake)

-- these are the parts of all passes, in turn
pub record AreParts (m : Moment) (ps : List SemPart) : Type 0 where
  pub many : length ps ≡ length m.hands
  pub each : (id : ℕ) (h : Hand) → get_elem? m.hands id ≡ some h → (p : SemPart) × (get_elem? ps id ≡ some p) × IsPartThen m id h p

-- Each reader is a task, once: it holds shared, its grant word is 0 while it waits, or it is in the rest of a batch that is in the count. `readers` is how many there are.
pub record AreReaders (grants : List ℕ) (ps : List SemPart) : Type 0 where
  pub once : (t : ℕ) → t < MAX_TASKS → total (reads_as grants t) ps ≤ 1
  pub are : over (λ t. total (reads_as grants t) ps) MAX_TASKS ≡ readers grants ps

-- the pass of this number has the wait lock
abbrev pub HasWaitLock : ℕ → Moment → Type 0
HasWaitLock id m = (s : SpinHand) × (get_elem? m.spins id ≡ some s) × (holds_in s ≡ 1)

-- While this is the list, and these are the parts of the passes. The list's words state it while the wait lock is free, and each waiter has a pass. The count states whether a task writes, which then
-- is alone, how many read, which biases are in it, and, while the wait lock is free, that tasks wait. Then the first waiter alone may be marked, and HANDOFF is set where it is. Who is about
-- something, has reserved a bias, or has tasks of a batch still to grant, has the wait lock; whose bias is in transit holds nothing, and has a number.
-- Where nobody writes or reads and tasks wait, a pass owes a wake, or a bias keeps writers out, or the first waiter is a writer that is awakened. While a bias stands that came under a writer, a task
-- writes, or a pass owes a wake. A reader that is granted while it waits is awakened. A pass without a number owes no wake, has chosen nobody and waits for nothing.
pub record IsQueued (m : Moment) (q : List Waiter) (ps : List SemPart) : Type 0 where
  pub parts : AreParts m ps
  pub sound : IsList q
  pub states : IsWaitLockFree m.spins → Lists (list_words m.words) q
  pub passes : (t : ℕ) → 0 < counted t q → HasPass m.hands t
  pub waiters : StatesWaiters q (grants_in m.words) ps
  pub count : StatesCount (count_in m.words) q (marks_in m.words) (grants_in m.words) ps
  pub read : AreReaders (grants_in m.words) ps
  pub flags : IsWaitLockFree m.spins → Quiet (count_in m.words / 2 % 2) (count_in m.words / 4 % 2) q (marks_in m.words)
  pub marked : IsWaitLockFree m.spins → OnlyFirst (count_in m.words / 4 % 2) q (marks_in m.words)
  pub locked : (id : ℕ) (p : SemPart) → get_elem? ps id ≡ some p → 0 < busy_of p + reserve_of p + rest_of p → HasWaitLock id m
  pub apart : (id : ℕ) (p : SemPart) → get_elem? ps id ≡ some p → transit_of p ≡ 1 → (p.held ≡ No) × (p.task ≢ None)
  pub first : (w : Waiter) (behind : List Waiter) → q ≡ w ∷ behind → total alone_of ps ≡ 0 → readers (grants_in m.words) ps ≡ 0 → SomebodyOwes m ⊎ SomebodyKeepsOut ps
      ⊎ ((w.writer ≡ true) × IsBeingWoken m w.task)
  pub late : (id : ℕ) (p : SemPart) → get_elem? ps id ≡ some p → 1 ≤ overdue_of p → (1 ≤ total alone_of ps) ⊎ SomebodyOwes m
  pub unnamed : (id : ℕ) (h : Hand) (b : SemWake) → get_elem? m.hands id ≡ some h → h.task ≡ None → WakesMarked id b m → IsDone b
  pub granted : (id : ℕ) (h : Hand) (p : SemPart) → get_elem? m.hands id ≡ some h → get_elem? ps id ≡ some p → 1 ≤ granted_of (grants_in m.words) p → (t : ℕ) → h.task ≡ Some t → IsBeingWoken m t

-- the facts of a site, and a list
abbrev pub IsRwSemThen : {Call : Type 0} → Obj Call → ℕ → Plan → Moment → Type 0
IsRwSemThen o size k m = IsSiteThen o shut size k m × ((q : List Waiter) × (ps : List SemPart) × IsQueued m q ps)

-- the pass of this number has no batch under way
abbrev pub HasNoBatch : ℕ → List SemPart → Type 0
HasNoBatch id ps = (p : SemPart) × (get_elem? ps id ≡ some p) × (p.sem.rest ≡ [])

-- A change of this list is made under the wait lock by the pass of this number, hand and part. A waiter enters by itself, holds nothing, and has no batch under way. It leaves by itself, again with no
-- batch under way, or as the next of the batch of the pass, behind which it then stands. The second parts are those behind the step.
abbrev pub MadeBy : Change → ℕ → Hand → List SemPart → List SemPart → List Waiter → Moment → Type 0
MadeBy Stay id h ps ps' q m = Unit {0}
MadeBy (Enter w) id h ps ps' q m = HasWaitLock id m × (h.task ≡ Some w.task) × (h.held ≡ No) × HasNoBatch id ps
MadeBy (Leave t) id h ps ps' q m = HasWaitLock id m × (((h.task ≡ Some t) × HasNoBatch id ps)
    ⊎ ((p p' : SemPart) × (get_elem? ps id ≡ some p) × (get_elem? ps' id ≡ some p') × Picks p q t × (p'.sem.rest ≡ p.sem.rest ++ t ∷ [])))

-- One step of one pass, made while this was the list and these the parts of the passes.
-- The list changes by one append or one removal, which keeps the others in order. Each append is counted by the pass that enters.
-- At any time the writer's bit comes only where nobody is counted. While the first waiter is marked and HANDOFF is set, it comes by that waiter alone, and a task becomes a reader only by a bias whose
-- addition saw no HANDOFF, or by a downgrade. A bias keeps the count that its addition found. At any time a task becomes a reader by a step of its own pass, which has no batch under way, or in a
-- waker's whole batch, and it is one until its own pass ends its shared hold.
-- HANDOFF is set by a waker with a reserved bias where the first waiter is marked, or by a writer of the list, which is to mark that waiter from then on. HANDOFF stays until a writer takes, a waker
-- puts a batch of some readers into the count, or nobody waits. A mark is set by one of these, and is the first waiter's; it goes by that waiter's own pass, or by a waker whose batch has it next.
-- A batch grows by the readers that its waker picks, and is granted in this order once it is in the count; no other step clears a grant word.
-- Who is about something, before its step or behind it, has the wait lock. Who ends or downgrades a hold keeps the count that its step left. Whose failed try is counted waits for nothing, and has no
-- bias in the count.
-- What the pass has of wakes, and the wake words, go as `WakesGo` says.
pub record IsRwSemStep (k : Plan) (x : Moment) (q : List Waiter) (ps : List SemPart) (y : Moment) (q' : List Waiter) (ps' : List SemPart) : Type 0 where
  pub by : IsSiteStep k count_at x y
  pub change : Change
  pub allowed : Allowed change q
  pub made : MadeBy change by.id by.before ps ps' q x
  pub is : q' ≡ changed change q
  pub hands : KeepsHandoff by.id (count_in x.words) q (marks_in x.words) (grants_in x.words) ps (count_in y.words) (marks_in y.words) (grants_in y.words) ps'
  pub locked : (p p' : SemPart) → get_elem? ps by.id ≡ some p → get_elem? ps' by.id ≡ some p' → 0 < busy_of p + busy_of p' → HasWaitLock by.id x
  pub freed : KeepsCount by.before by.after (count_in y.words)
  pub appends : (s : SemHand) (appends : ℕ) (b : SemWake) → get_elem? x.marks by.id ≡ some (stance s appends b) → (s' : SemHand) × (b' : SemWake)
      × (get_elem? y.marks by.id ≡ some (stance s' (appends + entered change) b'))
  pub missed : by.after.misses ≢ by.before.misses → (p : SemPart) × (get_elem? ps by.id ≡ some p) × (p.sem.wait ≡ Apart) × (p.sem.bias ≡ Clear)
  pub wakes : (p p' : SemPart) (appends : ℕ) (b : SemWake) → get_elem? ps by.id ≡ some p → get_elem? ps' by.id ≡ some p' → get_elem? x.marks by.id ≡ some (stance p.sem appends b) → (b' : SemWake)
      × (get_elem? y.marks by.id ≡ some (stance p'.sem (appends + entered change) b'))
      × ((spin : SpinHand) × (get_elem? x.spins by.id ≡ some spin) × WakesGo (count_in x.words) (count_in y.words) q change (grants_in x.words) (wake_words x.words) (wake_words y.words)
      (holds_in spin) p p' (wake_stands b) (wake_stands b'))

-- the last of these moments, which stands first, has this list and these parts, and has come to be by such steps from that of the first
abbrev pub HasBecome : Plan → List Moment → List Waiter → List SemPart → Type 0
HasBecome k [] q ps = ⊥
HasBecome k (m ∷ []) q ps = IsQueued m q ps
HasBecome k (m ∷ before ∷ past) q ps = IsQueued m q ps × ((old : List Waiter) × (were : List SemPart) × HasBecome k (before ∷ past) old were × IsRwSemStep k before old were m q ps)

-- The last moment of its past is that of its own last step. It marks the pass at the seat of that step as waiting for nothing and without a bias in the count, as having appended itself as often as it
-- says, and as having no wake to do.
pub record IsOutOfLine (v : Shown) : Type 0 where
  pub own : IsLatestStep v
  pub wake : SemWake
  pub done : IsDone wake
  pub marked : get_elem? own.step.now.marks own.step.seat ≡ some (stance apart_hand v.line.appends wake)

-- that moment marks the pass as having set so many wake words, and as having fallen asleep so often
abbrev pub MarksCounts : (wakes dozes : ℕ) → Shown → Type 0
MarksCounts wakes dozes v = (own : IsLatestStep v) × ((b : SemWake) × WakesMarked own.step.seat b own.step.now × (b.wakes ≡ wakes) × (b.dozes ≡ dozes))

-- the same of the number of sleeps alone
abbrev pub MarksDozes : (dozes : ℕ) → Shown → Type 0
MarksDozes dozes v = (wakes : ℕ) × MarksCounts wakes dozes v

abbrev pub task_of : Waiter → ℕ
task_of w = w.task

-- the tasks of the list, which its words state while the wait lock is free, first to last
abbrev pub waits_on : Plan → Moment → List ℕ → Type 0
waits_on k m waiting = (q : List Waiter) × IsList q × (waiting ≡ map task_of q) × (IsWaitLockFree m.spins → Lists (list_words m.words) q)
