-- What is so of a mutex at each moment, and of each step.
use Rattle.std.specs.Prelude.{◌≡◌, ◌≢◌, ℕ, ◌+◌, ◌/◌, ◌%◌, ◌<◌, ◌≤◌, ◌⊎◌, true, List, [], ◌∷◌, length, map, Option, Some, None}
use mathlib.Core.Option.{some}
use lib.ListN.{get_elem?}
use Rattle.word_bits.specs.LockWords.{owned}
use Rattle.word_bits.specs.Objects.{Obj}
use Rattle.word_bits.specs.OwnerWord.{task_code}
use Rattle.word_bits.specs.Histories.{Plan}
use Rattle.lock_core.specs.Locked.{HasPass, IsSiteStep, IsWaitLockFree}
use Rattle.lock_core.specs.Shown.{IsLatestStep, Shown}
use Rattle.lock_core.specs.Spins.{holds_in}
use Rattle.lock_core.specs.SiteStated.{IsSiteThen}
use Rattle.mutex_word.specs.Holders.{IsHolder, KeepsLeft}
use Rattle.wait_list.specs.Lists.{Allowed, IsList, Lists, changed, counted, first_code}
use Rattle.wake_duty.specs.DutyWakes.{wake_word}
use Rattle.mutex_slow.specs.Mutexes.{AnswersHandoff, Asks, HasHandoff, entered, IsFirstTask, IsUnpicked, Leaves, LeavesToFirst, Standing, WakesGo, numbers_of, PicksFirst, list_words, owner_at}
use Rattle.mutex_slow.specs.Mutexes.{owner_in, wake_words}
use Rattle.mutex_slow.specs.Types.{Hand, SpinHand, Marks, Moment, No, Alone, Waiter, Change, Stay, Enter, Leave}

-- Without the pickup flag the word names the task that holds, or nobody where nobody does. With it nobody holds, and the word names the first waiter. The flags of the handoff and of the pickup are
-- never both set. While the wait lock is free, the flag of the waiters is set exactly where tasks wait, and the other two only there.
pub record StatesOwner (word : ℕ) (free : Type 0) (l : List Waiter) (hs : List Hand) : Type 0 where
  pub holder : word % 8 < 4 → (task : Option ℕ) × (word / 8 ≡ task_code task) × IsHolder hs task
  pub picked : 4 ≤ word % 8 → IsHolder hs None × PicksFirst word l × (0 < length l)
  pub nobody : word < 8 → word < 2
  pub apart : word % 8 < 6
  pub waited : free → 0 < length l → word % 2 ≡ 1
  pub unwaited : free → length l ≡ 0 → word % 8 ≡ 0

-- what a moment keeps of a pass that stands so
abbrev pub line_marks : Standing → Marks
line_marks s = record { numbers = numbers_of s }

-- how often a pass with this number of a task waits in the list, and not at all without one
abbrev pub waits_in : List Waiter → Option ℕ → ℕ
waits_in l None = 0
waits_in l (Some t) = counted t l

-- this moment marks the pass of this number as standing so
abbrev pub StandsMarked : ℕ → Standing → Moment → Type 0
StandsMarked id s m = get_elem? m.marks id ≡ some (line_marks s)

-- who has the duty to wake this waiter, or that it needs nobody: A pass ended its hold, left the flag of the waiters, and has chosen nobody yet. Or one has chosen it, and hasn't set its wake word
-- yet. Or that word is set. Or it is awake, and tries before it sleeps.
abbrev pub HasDuty : Moment → ℕ → Type 0
HasDuty m t = ((id : ℕ) × (h : Hand) × (s : Standing) × (get_elem? m.hands id ≡ some h) × StandsMarked id s m × (s.debt ≡ 1) × (h.freed % 2 ≡ 1))
    ⊎ ((id : ℕ) × (h : Hand) × (s : Standing) × (get_elem? m.hands id ≡ some h) × StandsMarked id s m × (s.chosen ≡ t + 1))
    ⊎ (wake_word (wake_words m.words) t ≡ 1)
    ⊎ ((id : ℕ) × (h : Hand) × (s : Standing) × (get_elem? m.hands id ≡ some h) × (h.task ≡ Some t) × StandsMarked id s m × (s.queued ≡ 1) × (s.awake ≡ 1))

-- it has no wake to do
abbrev pub OwesNone : Standing → Hand → Type 0
OwesNone s h = (s.chosen ≡ 0) × (s.debt ≡ 1 → h.freed % 2 ≡ 0)

-- while this is the list: Its words state it while the wait lock is free. Each waiter has a pass, and each pass has a mark, which says whether its task waits. A pass without a task has no wake to do.
-- The owner word states who holds, who is picked, and whether tasks wait. Where nobody holds, somebody has the duty to wake the first waiter, or it needs nobody.
pub record IsListed (m : Moment) (l : List Waiter) : Type 0 where
  pub sound : IsList l
  pub states : IsWaitLockFree m.spins → Lists (list_words m.words) l
  pub passes : (t : ℕ) → 0 < counted t l → HasPass m.hands t
  pub has : (id : ℕ) (h : Hand) → get_elem? m.hands id ≡ some h → (s : Standing) × StandsMarked id s m
  pub marked : (id : ℕ) (s : Standing) (h : Hand) → get_elem? m.hands id ≡ some h → StandsMarked id s m → s.queued ≡ waits_in l h.task
  pub unnamed : (id : ℕ) (s : Standing) (h : Hand) → get_elem? m.hands id ≡ some h → StandsMarked id s m → h.task ≡ None → OwesNone s h
  -- who waits has no wake to do either: a task that sleeps is nobody's waker
  pub waiting : (id : ℕ) (s : Standing) (h : Hand) → get_elem? m.hands id ≡ some h → StandsMarked id s m → s.queued ≡ 1 → OwesNone s h
  pub owner : StatesOwner (owner_in m.words) (IsWaitLockFree m.spins) l m.hands
  pub duty : IsHolder m.hands None → (t : ℕ) → first_code l ≡ t + 1 → HasDuty m t

-- the facts of a site, and a list
abbrev pub IsMutexThen : {Call : Type 0} → Obj Call → ℕ → Plan → Moment → Type 0
IsMutexThen o size k m = IsSiteThen o owned size k m × ((l : List Waiter) × IsListed m l)

-- the pass of this number has the wait lock
abbrev pub HasWaitLock : ℕ → Moment → Type 0
HasWaitLock id m = (s : SpinHand) × (get_elem? m.spins id ≡ some s) × (holds_in s ≡ 1)

-- a change is made under the wait lock by the waiter's own pass, which has this number and hand; who enters is to hold alone, and doesn't hold yet; who leaves isn't picked
abbrev pub MadeBy : Change → ℕ → Hand → Moment → Type 0
MadeBy Stay id h m = Unit {0}
MadeBy (Enter w) id h m = HasWaitLock id m × (h.task ≡ Some w.task) × (h.held ≡ No) × (w.writer ≡ true)
MadeBy (Leave t) id h m = HasWaitLock id m × (h.task ≡ Some t) × IsUnpicked (owner_in m.words) t

-- the pass with this hand took what the word picks its task for
abbrev pub TakesUp : Hand → ℕ → ℕ → Type 0
TakesUp h n n' = ((t : ℕ) × (h.task ≡ Some t) × (n / 8 ≡ t + 1)) × (n' + 4 ≡ n)

-- One step of one pass, made while this was the list: the list changes by one append or one removal, which keeps the others in order. A step that ends a hold while a handoff is asked for picks the
-- first waiter. A word that picks a waiter is changed by that waiter alone, which takes. The first waiter alone asks for a handoff. The flag of the handoff stays until the holder names the first
-- waiter, or nobody waits. Who ends a hold keeps the word that its step left; under the wait lock that word picks the first waiter, or names nobody where nobody waits. Each append is counted by the
-- pass that enters, and a failed try by a pass that stands outside the list. What the pass owes, how its task waits, and the wake words go as `WakesGo` says.
pub record IsMutexStep (k : Plan) (x : Moment) (l : List Waiter) (y : Moment) (l' : List Waiter) : Type 0 where
  pub by : IsSiteStep k owner_at x y
  pub change : Change
  pub allowed : Allowed change l
  pub made : MadeBy change by.id by.before x
  pub is : l' ≡ changed change l
  pub hands : Leaves (owner_in x.words) (owner_in y.words) → PicksFirst (owner_in y.words) l
  pub picks : 4 ≤ owner_in x.words % 8 → (owner_in y.words ≡ owner_in x.words) ⊎ TakesUp by.before (owner_in x.words) (owner_in y.words)
  pub asks : Asks (owner_in x.words) (owner_in y.words) → IsFirstTask by.before.task l
  pub stays : HasHandoff (owner_in x.words) → HasHandoff (owner_in y.words) ⊎ AnswersHandoff by.before (owner_in y.words) l
  pub freed : KeepsLeft by.before by.after (owner_in y.words)
  pub names : by.before.held ≡ Alone → by.after.held ≡ No → HasWaitLock by.id y → LeavesToFirst (owner_in y.words) l
  pub stands : (s : Standing) → StandsMarked by.id s x → (s' : Standing) × StandsMarked by.id s' y × (s'.appends ≡ s.appends + entered change)
      × ((spin : SpinHand) × (get_elem? x.spins by.id ≡ some spin) × WakesGo (owner_in x.words) l change (wake_words x.words) (wake_words y.words) (holds_in spin) by.before by.after s s')
  pub missed : by.after.misses ≢ by.before.misses → (s : Standing) → StandsMarked by.id s x → s.queued ≡ 0

-- the last of these moments, which stands first, has this list, and it has come to be by such steps from that of the first
abbrev pub HasBecome : Plan → List Moment → List Waiter → Type 0
HasBecome k [] l = ⊥
HasBecome k (m ∷ []) l = IsListed m l
HasBecome k (m ∷ before ∷ past) l = IsListed m l × ((old : List Waiter) × HasBecome k (before ∷ past) old × IsMutexStep k before old m l)

-- The last moment of its past is that of its own last step. It marks the pass at the seat of that step as out of the list, as having appended itself as often as it says, and as having no wake to do.
pub record IsOutOfList (v : Shown) : Type 0 where
  pub own : IsLatestStep v
  pub stands : Standing
  pub marked : StandsMarked own.step.seat stands own.step.now
  pub out : stands.queued ≡ 0
  pub appends : stands.appends ≡ v.line.appends
  pub clear : OwesNone stands v.hand

-- that moment marks the pass as having set so many wake words, and as having fallen asleep so often
abbrev pub MarksCounts : (wakes dozes : ℕ) → Shown → Type 0
MarksCounts wakes dozes v = (own : IsLatestStep v) × ((stands : Standing) × StandsMarked own.step.seat stands own.step.now × (stands.wakes ≡ wakes) × (stands.dozes ≡ dozes))

-- the same of the number of sleeps alone
abbrev pub MarksDozes : (dozes : ℕ) → Shown → Type 0
MarksDozes dozes v = (wakes : ℕ) × MarksCounts wakes dozes v

abbrev pub task_of : Waiter → ℕ
task_of w = w.task

-- the tasks of the list, which its words state while the wait lock is free, first to last
abbrev pub waits_on : Plan → Moment → List ℕ → Type 0
waits_on k m waiting = (l : List Waiter) × IsList l × (waiting ≡ map task_of l) × (IsWaitLockFree m.spins → Lists (list_words m.words) l)
