-- The rule of a mutex: the facts of its parts, and those that couple the owner word, the list and the passes.
use Rattle.std.specs.Prelude.{◌≡◌, ◌≢◌, ℕ, ◌+◌, ◌-◌, ◌*◌, ◌/◌, ◌%◌, ◌<◌, ◌≤◌, ◌==◌, ◌⊎◌, Bool, true, false, List, [], ◌∷◌, length, map, slice_index, ◌&&◌, Option, Some, None, if◌then◌else◌}
use mathlib.Core.Option.{some}
use lib.ListN.{get_elem?}
use Rattle.word_bits.specs.declared.TheConstants.{MAX_TASKS}
use Rattle.word_bits.specs.LockWords.{owned}
use Rattle.word_bits.specs.Objects.{Obj}
use Rattle.word_bits.specs.Histories.{Plan}
use Rattle.mutex_slow.specs.Types.{View, Hand, No, Alone, Turn, Fail, Take, Ask, Free, Flag, Clear, Waiter, Change, Stay, Enter, Leave, ListHand, Duty, NoDuty, Owing, Chosen, WaitState}
use Rattle.mutex_slow.specs.Types.{Absent, Awake, Tried, WakeHand, MutexHand, Point, Rest, Joins, Empties}
use Rattle.lock_core.specs.declared.layout.TheConstants.{LOCK_WORDS, SPIN_ROOM, SPIN_WORDS}
use Rattle.lock_core.specs.Layout.{site, width, part}
use Rattle.lock_core.specs.Views.{SpinRests, hand_of, spin_part, is_number}
use Rattle.lock_core.specs.Sites.{SiteKept}
use Rattle.lock_core.specs.Moves.{SiteMove}
use Rattle.lock_core.specs.SpinFrames.{when}
use Rattle.lock_core.specs.Spins.{SpinKept, SpinMoves, holds_in}
use Rattle.lock_core.specs.Records.{bit}
use Rattle.lock_core.specs.Totals.{total}
use Rattle.lock_core.specs.ViewParts.{Each}
use Rattle.mutex_word.specs.declared.host.Turn.TheVariants.{Hand as HandOn}
use Rattle.mutex_word.specs.Holders.{KeepsLeft, OwnKept, IsAsk}
use Rattle.mutex_word.specs.OwnerTries.{IsTake}
use Rattle.wait_list.specs.declared.words.TheConstants.{LIST_WORDS}
use Rattle.wait_list.specs.Lists.{ListKept, ListMoves, Knows, list_part, no_list, first_code, counted}
use Rattle.wake_duty.specs.DutyWakes.{WAKE_WORDS, WakeKept, wake_part, no_wake, waits, owed, chose_any, duty_of, failing, looking, setting, drowsing}
use Rattle.wake_duty.specs.WakeMoves.{ChoosesFirst, DozesOff, SetsChosen, WordGoes}

abbrev pub V : Type 0
V = View MutexHand

abbrev pub idle : MutexHand
idle = record { list = no_list; queued = false; point = Rest; first = false; failed = 0; appends = 0; wake = no_wake }

-- whether it ended its hold by a release, and has not looked for a first waiter since
abbrev pub debt_of : Duty → ℕ
debt_of NoDuty = 0
debt_of Owing = 1
debt_of (Chosen t) = 0

-- the code of the task that it has chosen, whose wake word it hasn't set, or 0
abbrev pub chosen_code : Duty → ℕ
chosen_code NoDuty = 0
chosen_code Owing = 0
chosen_code (Chosen t) = t + 1

-- whether it waits, and tries before it sleeps
abbrev pub awake_bit : WaitState → ℕ
awake_bit Absent = 0
awake_bit Awake = 1
awake_bit (Tried n) = 0

-- how a pass stands in line: Whether its task is in the list, and how often it has appended itself. Whether it ended its hold by a release and hasn't looked for a first waiter since. The code of the
-- task that it has chosen, whose wake word it hasn't set. Whether its task waits and tries before it sleeps. How many wake words it has set. How often it has fallen asleep.
pub record Standing : Type 0 where
  pub queued : ℕ
  pub appends : ℕ
  pub debt : ℕ
  pub chosen : ℕ
  pub awake : ℕ
  pub wakes : ℕ
  pub dozes : ℕ

abbrev pub standing_of : MutexHand → Standing
standing_of e = record {
  queued = bit e.queued;
  appends = e.appends;
  debt = debt_of e.wake.duty;
  chosen = chosen_code e.wake.duty;
  awake = awake_bit e.wake.wait_state;
  wakes = e.wake.wakes;
  dozes =
      e.wake.dozes;
}

-- what a moment keeps of a pass that stands so
abbrev pub numbers_of : Standing → List ℕ
numbers_of s = s.queued ∷ s.appends ∷ s.debt ∷ s.chosen ∷ s.awake ∷ s.wakes ∷ s.dozes ∷ []

abbrev pub standing : MutexHand → List ℕ
standing e = numbers_of (standing_of e)

-- how often a change appends the pass that makes it
abbrev pub entered : Change → ℕ
entered Stay = 0
entered (Enter w) = 1
entered (Leave t) = 0

-- and how often it removes that pass
abbrev pub left : Change → ℕ
left Stay = 0
left (Enter w) = 0
left (Leave t) = 1

abbrev pub list_of : MutexHand → ListHand
list_of e = e.list

abbrev pub wake_of : MutexHand → WakeHand
wake_of e = e.wake

abbrev pub with_wake : MutexHand → WakeHand → MutexHand
with_wake e w = record e { wake = w }

abbrev pub wait_state_of : MutexHand → WaitState
wait_state_of e = e.wake.wait_state

-- it has chosen this task, and hasn't set its wake word
abbrev pub HasChosen : MutexHand → ℕ → Type 0
HasChosen e t = (e.wake.duty ≡ Chosen t) × (t < MAX_TASKS)

-- what it knows once it has set the wake word of the task that it had chosen, or has swapped its own, which had this number
abbrev pub after_set : MutexHand → ℕ → MutexHand
after_set e t = with_wake e (setting e.wake)

abbrev pub after_swap : MutexHand → ℕ → MutexHand
after_swap e n = with_wake e (drowsing n e.wake)

-- it has no wake to do: it didn't end a hold with the flag of the waiters without looking for a first waiter since, and has chosen none whose wake word it hasn't set
abbrev pub OwesNoWake : V → Type 0
OwesNoWake v = owed v.ext.wake.duty v.hand.freed + chose_any v.ext.wake.duty ≡ 0

abbrev pub point_weight : Point → ℕ
point_weight Rest = 0
point_weight Joins = 1
point_weight Empties = 1

abbrev pub point_of : V → ℕ
point_of v = point_weight v.ext.point

abbrev pub queued_of : ℕ → V → ℕ
queued_of t v = when v.ext.queued (is_number t v.hand.task)

-- it has the wait lock
abbrev pub HasLock : V → Type 0
HasLock v = holds_in v.spin ≡ 1

-- it isn't in the list, and nothing is under way
abbrev pub IsOut : V → Type 0
IsOut v = (v.ext.queued ≡ false) × (v.ext.point ≡ Rest) × (v.ext.first ≡ false) × (v.ext.list.leaver ≡ 0) × (HasLock v → v.ext.failed < v.spin.entries)

-- the word doesn't pick the task
abbrev pub IsUnpicked : ℕ → ℕ → Type 0
IsUnpicked n t = 4 ≤ n % 8 → n / 8 ≢ t + 1

-- the flags fit the list
pub record Flagged (n : ℕ) (l : List Waiter) : Type 0 where
  pub some : 0 < length l → n % 2 ≡ 1
  pub none : length l ≡ 0 → n % 8 ≡ 0

pub record SeatOk (n : ℕ) (l : List Waiter) (v : V) : Type 0 where
  pub joins : v.ext.point ≡ Joins → (HasLock v) × ((t : ℕ) × (v.hand.task ≡ Some t) × (first_code l ≡ t + 1)) × (length l ≡ 1) × (n % 8 ≡ 0) × (v.ext.wake.wait_state ≡ Awake)
  pub empties : v.ext.point ≡ Empties → (HasLock v) × (length l ≡ 0) × (n % 2 ≡ 1) × (n % 8 < 4)
  pub first : v.ext.first ≡ true → (t : ℕ) × (v.hand.task ≡ Some t) × (first_code l ≡ t + 1)
  pub failed : HasLock v → v.ext.failed ≡ v.spin.entries → (t : ℕ) → v.hand.task ≡ Some t → IsUnpicked n t
  pub past : v.ext.failed ≤ v.spin.entries
  pub leaver : v.ext.list.leaver ≢ 0 → (t : ℕ) × (v.hand.task ≡ Some t) × (v.ext.list.leaver ≡ t + 1)
  pub named : v.hand.task ≡ None → IsOut v
  pub waits : bit v.ext.queued ≡ waits v.ext.wake.wait_state

-- the owner word, the list and the passes
pub record Coupled (n : ℕ) (l : List Waiter) (vs : List V) : Type 0 where
  pub places : (t : ℕ) → counted t l ≡ total (queued_of t) vs
  pub flags : total point_of vs ≡ 0 → Flagged n l
  pub picked : 4 ≤ n % 8 → n / 8 ≡ first_code l
  pub each : Each (SeatOk n l) vs

-- where the words stand: the wait lock's, the owner word, those of the list, and a line with a wake word for each task
abbrev pub wait_lock_at : ℕ
wait_lock_at = 0

abbrev pub owner_at : ℕ
owner_at = SPIN_ROOM

abbrev pub list_at : ℕ
list_at = SPIN_ROOM + 8

abbrev pub wakes_at : ℕ
wakes_at = LOCK_WORDS - WAKE_WORDS

abbrev pub spin_words : List ℕ → List ℕ
spin_words ws = part wait_lock_at SPIN_WORDS ws

abbrev pub owner_in : List ℕ → ℕ
owner_in ws = slice_index ws owner_at

abbrev pub list_words : List ℕ → List ℕ
list_words ws = part list_at LIST_WORDS ws

abbrev pub wake_words : List ℕ → List ℕ
wake_words ws = part wakes_at WAKE_WORDS ws

module _ {Call : Type 0} (o : Obj Call) (size : ℕ) where
  pub record MutexKept (k : Plan) (ws : List ℕ) (vs : List V) (l : List Waiter) : Type 0 where
    pub wide : length ws ≡ width k
    pub site_holds : SiteKept o owned size k (site k ws) (map hand_of vs)
    pub spin : SpinKept (spin_words ws) (map spin_part vs)
    pub own : OwnKept (owner_in ws) (map hand_of vs)
    pub list : ListKept (list_words ws) l (map (list_part list_of) vs)
    pub coupled : Coupled (owner_in ws) l vs
    pub wake : WakeKept (wake_words ws) l (map (wake_part wake_of) vs)

  abbrev pub Kept : Plan → List ℕ → List V → Type 0
  Kept k ws vs = (l : List Waiter) × MutexKept k ws vs l

-- ends a hold while a handoff is asked for
abbrev pub Leaves : ℕ → ℕ → Type 0
Leaves n m = (n % 8 < 4) × (2 ≤ n % 4) × (8 ≤ n) × (m / 8 ≢ n / 8)

-- the word picks the first waiter
abbrev pub PicksFirst : ℕ → List Waiter → Type 0
PicksFirst m l = (4 ≤ m % 8) × (m / 8 ≡ first_code l)

-- the word picks the first waiter, or names nobody where nobody waits
abbrev pub LeavesToFirst : ℕ → List Waiter → Type 0
LeavesToFirst m l = PicksFirst m l ⊎ ((m < 2) × (length l ≡ 0))

-- the word has the flag of the handoff
abbrev pub HasHandoff : ℕ → Type 0
HasHandoff n = 2 ≤ n % 4

-- from the first word to the second the flag of the handoff is set
abbrev pub Asks : ℕ → ℕ → Type 0
Asks n m = (n % 4 < 2) × HasHandoff m

-- the task is the first waiter
abbrev pub IsFirstTask : Option ℕ → List Waiter → Type 0
IsFirstTask task l = (t : ℕ) × (task ≡ Some t) × (first_code l ≡ t + 1)

-- a pass with this hand names the first waiter by this word, or finds that nobody waits
abbrev pub AnswersHandoff : Hand → ℕ → List Waiter → Type 0
AnswersHandoff h m l = ((h.held ≡ Alone) × PicksFirst m l) ⊎ (length l ≡ 0)

-- a pass of this number took up what the word picks it for
abbrev pub TookUp : ℕ → List V → ℕ → ℕ → Type 0
TookUp id vs n m = (v : V) × (get_elem? vs id ≡ some v) × ((t : ℕ) × (v.hand.task ≡ Some t) × (n / 8 ≡ t + 1)) × (m + 4 ≡ n)

-- a pass changes the list by its own task alone, which enters to hold alone, and doesn't hold yet, and isn't picked by this word when it leaves
abbrev pub IsOwnChange : ℕ → List V → ℕ → Change → Type 0
IsOwnChange id vs n Stay = Unit {0}
IsOwnChange id vs n (Enter w) = (v : V) × (get_elem? vs id ≡ some v) × (v.hand.task ≡ Some w.task) × (v.hand.held ≡ No) × (w.writer ≡ true)
IsOwnChange id vs n (Leave t) = (v : V) × (get_elem? vs id ≡ some v) × (v.hand.task ≡ Some t) × IsUnpicked n t

-- it owed a choice with the flag of the waiters, or ends its hold by this step
abbrev pub MayChoose : (h h' : Hand) (s : Standing) → Type 0
MayChoose h h' s = ((s.debt ≡ 1) × (h.freed % 2 ≡ 1)) ⊎ ((h.held ≡ Alone) × (h'.held ≡ No))

-- the wake word of the task that it had chosen is set
abbrev pub EndsChoice : (words' : List ℕ) (s s' : Standing) → Type 0
EndsChoice words' s s' = (s'.chosen ≡ 0) × SetsChosen words' (λ t. s.chosen ≡ t + 1) s.wakes s'.wakes

-- a try failed with the wait lock: the word names a task, and doesn't pick the own one
abbrev pub FailsUnderLock : (n locked : ℕ) → Hand → Type 0
FailsUnderLock n locked h = (locked ≡ 1) × (8 ≤ n) × ((t : ℕ) × (h.task ≡ Some t) × IsUnpicked n t)

-- What a step of a pass does to the wake words, to what it owes and to how its task waits. `n` is the owner word, `l` the list and `c` its change. `locked` is 1 where the pass had the wait lock. `h`
-- and `s` stand before the step. Nobody owes but by ending a hold, and who ends one owes, or has chosen the first waiter by that step. Nobody chooses but to end a debt with the flag of the waiters,
-- or by the step that ends its hold. Such a debt ends by a choice of the first waiter, and a choice by the store of its wake word. A task falls asleep only while it holds nothing, and after it isn't
-- to try any more, and so it is by a try that failed under the wait lock, or by leaving. It is to try once it enters, or once it has made a step without the wait lock by which it didn't fall asleep.
pub record WakesGo (n : ℕ) (l : List Waiter) (c : Change) (words words' : List ℕ) (locked : ℕ) (h h' : Hand) (s s' : Standing) : Type 0 where
  pub words_go : (t : ℕ) → t < MAX_TASKS → WordGoes words words' h.task locked s.queued s.awake (λ u. s.chosen ≡ u + 1) t
  pub owes : s.debt ≡ 0 → s'.debt ≡ 1 → (h.held ≡ Alone) × (h'.held ≡ No)
  pub must : h.held ≡ Alone → h'.held ≡ No → (s'.debt ≡ 1) ⊎ ChoosesFirst locked l s'.chosen
  pub pays : s.debt ≡ 1 → h.freed % 2 ≡ 1 → (s'.debt ≡ 1) ⊎ ChoosesFirst locked l s'.chosen
  pub chooses : s'.chosen ≢ s.chosen → s'.chosen ≢ 0 → ChoosesFirst locked l s'.chosen × MayChoose h h' s
  pub sets : s'.chosen ≢ s.chosen → s.chosen ≢ 0 → EndsChoice words' s s'
  pub wakes : s'.wakes ≢ s.wakes → EndsChoice words' s s'
  pub dozes : s'.dozes ≢ s.dozes → (h.held ≡ No) × DozesOff words h.task locked s.queued s.awake s'.awake s.dozes s'.dozes
  pub enters : entered c ≡ 1 → s'.awake ≡ 1
  pub wakes_it : s.awake ≡ 0 → s'.awake ≡ 1 → (entered c ≡ 1) ⊎ ((locked ≡ 0) × (s'.dozes ≡ s.dozes))
  pub tries : s.awake ≡ 1 → s'.awake ≡ 0 → (left c ≡ 1) ⊎ FailsUnderLock n locked h

-- What a step may do: all that each step of a site, of a spin lock and of a list does. Where it ends a hold while a handoff is asked for, it picks the first waiter. A word that picks a waiter is
-- changed by that waiter alone, which takes. The first waiter alone asks for a handoff. The flag of the handoff stays until the holder names the first waiter or nobody waits. Who ends a hold keeps
-- the word that it left, which is the first waiter's where it has the wait lock. An append is counted by the pass that enters, and a failed try by one that stands outside the list. `WakesGo` says
-- what becomes of the wake words.
pub record MutexMoves (k : Plan) (id : ℕ) (ws : List ℕ) (vs : List V) (us : List ℕ) (vs' : List V) : Type 0 where
  pub site : SiteMove id (owner_in ws) (site k ws) vs (site k us) vs'
  pub spin : SpinMoves id (spin_words ws) (map spin_part vs) (spin_words us) (map spin_part vs')
  pub list : ListMoves id (list_words ws) (map (list_part list_of) vs) (list_words us) (map (list_part list_of) vs')
  pub own : IsOwnChange id vs (owner_in ws) list.change
  pub hands : Leaves (owner_in ws) (owner_in us) → PicksFirst (owner_in us) list.list
  pub picks : 4 ≤ owner_in ws % 8 → (owner_in us ≡ owner_in ws) ⊎ TookUp id vs (owner_in ws) (owner_in us)
  pub asks : Asks (owner_in ws) (owner_in us) → IsFirstTask site.before.hand.task list.list
  pub stays : HasHandoff (owner_in ws) → HasHandoff (owner_in us) ⊎ AnswersHandoff site.before.hand (owner_in us) list.list
  pub freed : KeepsLeft site.before.hand site.after.hand (owner_in us)
  pub names : site.before.hand.held ≡ Alone → site.after.hand.held ≡ No → HasLock site.after → LeavesToFirst (owner_in us) list.list
  pub appends : site.after.ext.appends ≡ site.before.ext.appends + entered list.change
  pub missed : site.after.hand.misses ≢ site.before.hand.misses → site.before.ext.queued ≡ false
  pub wakes : WakesGo (owner_in ws) list.list list.change (wake_words ws) (wake_words us) (holds_in site.before.spin) site.before.hand site.after.hand (standing_of site.before.ext)
      (standing_of site.after.ext)

abbrev pub may_free : V → Type 0
may_free v = (v.ext.point ≡ Rest) × (v.ext.list.changes ≡ false)

abbrev pub rests : V → Type 0
rests v = (v.ext.queued ≡ false) × (v.ext.point ≡ Rest) × (v.ext.first ≡ false) × (v.ext.list.leaver ≡ 0) × OwesNoWake v

-- it knows the list, whose words say so
abbrev pub KnowsList : V → Type 0
KnowsList v = Knows (v.spin, v.ext.list) × (v.ext.list.changes ≡ false) × (v.ext.point ≡ Rest)

-- where a pass may step so on the owner word. A try that fails found a word that names a task, and its pass is between no two steps that belong together.
abbrev pub may_own : Turn → V → ℕ → ℕ → Type 0
may_own Fail v n m = (m ≡ n) × (8 ≤ n) × (v.ext.point ≡ Rest) × ((t : ℕ) × (v.hand.task ≡ Some t) × IsUnpicked n t)
may_own Take v n m = (v.hand.held ≡ No) × ((t : ℕ) × (v.hand.task ≡ Some t) × IsTake t n m) × OwesNoWake v
may_own Ask v n m = (v.ext.first ≡ true) × (v.ext.point ≡ Rest) × IsAsk n m
may_own Free v n m = (v.hand.held ≡ Alone) × SpinRests v.spin × (n % 8 < 2) × (m ≡ n % 8) × (v.ext.queued ≡ false) × OwesNoWake v
may_own HandOn v n m = (v.hand.held ≡ Alone) × ((v.ext.queued ≡ false) × OwesNoWake v) × KnowsList v × (n % 8 < 4)
    × ((length v.ext.list.list ≡ 0 → m ≡ n % 2) × (0 < length v.ext.list.list → m ≡ 8 * first_code v.ext.list.list + 4 + n % 2))
may_own Flag v n m = (v.ext.point ≡ Joins) × (n % 2 ≡ 0 → m ≡ n + 1)
may_own Clear v n m = (v.ext.point ≡ Empties) × (m + n % 8 ≡ n)

-- a failed try is counted where its pass stands outside the list, and there alone
abbrev pub may_miss : V → Type 0
may_miss v = v.ext.queued ≡ false

abbrev pub uncounted : V → Type 0
uncounted v = v.ext.queued ≡ true

abbrev pub turned : Turn → V → MutexHand
turned Fail v = record v.ext { failed = v.spin.entries; wake = failing (holds_in v.spin) v.spin.entries v.ext.wake }
turned Take v = record v.ext { wake = record v.ext.wake { duty = NoDuty } }
turned Ask v = v.ext
turned Free v = record v.ext { wake = record v.ext.wake { duty = Owing } }
turned HandOn v = record v.ext { wake = record v.ext.wake { duty = duty_of (first_code v.ext.list.list) } }
turned Flag v = record v.ext { point = Rest }
turned Clear v = record v.ext { point = Rest }

abbrev pub with_list : Change → V → ListHand → MutexHand
with_list Stay v b = record v.ext { list = b }
with_list (Enter w) v b = record v.ext {
  list = b;
  queued = true;
  first = false;
  point = if length b.list == 1 then Joins else Rest;
  appends = v.ext.appends + 1;
  wake =
      record v.ext.wake { wait_state = Awake };
}
with_list (Leave t) v b = record v.ext { list = b; queued = false; first = false; point = if length b.list == 0 then Empties else Rest; wake = record v.ext.wake { wait_state = Absent } }

abbrev pub may_change : Change → V → List Waiter → Type 0
may_change Stay v l = Unit {0}
may_change (Enter w) v l = (v.hand.task ≡ Some w.task) × (v.ext.queued ≡ false) × (v.ext.point ≡ Rest) × (v.hand.held ≡ No) × (w.writer ≡ true) × OwesNoWake v
may_change (Leave t) v l = (v.hand.task ≡ Some t) × (v.ext.queued ≡ true) × (v.ext.point ≡ Rest)
    × ((v.hand.held ≡ Alone) ⊎ ((v.ext.failed ≡ v.spin.entries) × (v.ext.wake.wait_state ≡ Tried v.spin.entries)))

abbrev pub is_code : Option ℕ → ℕ → Bool
is_code None n = false
is_code (Some t) n = n == t + 1

-- a pass that sees its own code as the head is the first waiter; one with the wait lock that owes a wake chooses whom it sees
abbrev pub saw_first : V → ℕ → MutexHand
saw_first v n = record v.ext { first = is_code v.hand.task n && (holds_in v.spin == 0); wake = looking (holds_in v.spin) v.ext.list.changes v.hand.freed n v.ext.wake }
