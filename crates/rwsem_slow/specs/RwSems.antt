-- The rule of a reader-writer semaphore: the facts of its parts, and what a step may do.
use Rattle.std.specs.Prelude.{◌≡◌, ◌≢◌, ℕ, ◌+◌, ◌-◌, ◌*◌, ◌/◌, ◌%◌, ◌≤◌, ◌==◌, ◌&&◌, ◌⊎◌, true, false, List, [], ◌∷◌, ◌++◌, length, map, slice_index, Bool, Some}
use mathlib.Core.Option.{some}
use lib.ListN.{get_elem?}
use Rattle.word_bits.specs.LockWords.{counted}
use Rattle.word_bits.specs.Objects.{Obj}
use Rattle.word_bits.specs.Histories.{Plan}
use Rattle.rwsem_slow.specs.Types.{Hand, Held, No, Shared, Alone, Waiter, Change, Stay, Enter, Leave, WaitState, Absent, SemWake, Bias, Clear, Transit, Reserve, SemHand, Wait, Apart, Reads}
use Rattle.rwsem_slow.specs.Types.{Writes, Stage, Rest, Armed, Marking, Took, Summing, Granting, RwSemHand}
use Rattle.lock_core.specs.declared.layout.TheConstants.{LOCK_WORDS, ROW_WORDS, SPIN_ROOM, SPIN_WORDS}
use Rattle.lock_core.specs.Layout.{site, width, part}
use Rattle.lock_core.specs.Views.{hand_of, held_weight, spin_part}
use Rattle.lock_core.specs.Sites.{SiteKept}
use Rattle.lock_core.specs.Moves.{SiteMove}
use Rattle.lock_core.specs.Spins.{SpinKept, SpinMoves, holds_in}
use Rattle.lock_core.specs.ViewParts.{Each}
use Rattle.lock_core.specs.Records.{bit}
use Rattle.wait_list.specs.declared.words.TheConstants.{LIST_WORDS}
use Rattle.wait_list.specs.Lists.{ListKept, ListMoves, list_part, no_list, first_code}
use Rattle.wake_duty.specs.DutyWakes.{WAKE_WORDS, waits}
use Rattle.rwsem_wake.specs.SemDuties.{DutyPart, DutyKept, no_wake, drowsing}
use Rattle.rwsem_count.specs.Counts.{CountPart, early_weight, late_weight, shared_weight}
use Rattle.rwsem_wake.specs.SemParts.{apart_hand, busy_weight, reserve_weight, transit_weight}
use Rattle.rwsem_wake.specs.GrantSemaphores.{SemKept, more_of}
use Rattle.rwsem_wake.specs.Handoffs.{KeepsHandoff}
use Rattle.rwsem_wake.specs.GrantsStated.{Picks}
use Rattle.rwsem_wake.specs.Lines.{lines_in}
use Rattle.rwsem_wake.specs.Duties.{StageOk, duty_of, is_left}
use Rattle.rwsem_slow.specs.WakesGo.{WakesGo, awake_bit, wake_stands}
use Rattle.rwsem_wake.specs.RwSemViews.{V, IsDone, LeavesPicked, count_at, list_at, list_of, seen, with_wake}

abbrev pub idle : RwSemHand
idle = record { list = no_list; sem = apart_hand; appends = 0; wake = no_wake }

abbrev pub wait_state_of : RwSemHand → WaitState
wait_state_of e = e.wake.wait_state

-- how a pass waits that leaves nothing undone: it owes no wake, has chosen nobody, has no bias in the count, and waits
abbrev pub sleeps_as : Bool → List ℕ → Bias → Wait → WaitState → WaitState
sleeps_as false [] Clear Reads x = x
sleeps_as false [] Clear Writes x = x
sleeps_as _ _ _ _ x = Absent

-- so it waits where it may sleep; any other is as one that doesn't wait
abbrev pub sleep_wait_state : RwSemHand → WaitState
sleep_wait_state e = sleeps_as e.wake.owing e.wake.chosen e.sem.bias e.sem.wait e.wake.wait_state

abbrev pub after_swap : RwSemHand → ℕ → RwSemHand
after_swap e n = with_wake e (drowsing n e.wake)

abbrev pub bias_of : RwSemHand → Bias
bias_of e = e.sem.bias

-- what of a view concerns wakes, by these grant words
abbrev pub duty_seen : List ℕ → V → DutyPart
duty_seen grants v = duty_of grants (seen v) v.ext.wake

-- at its stage it stands as that asks
abbrev pub IsStaged : V → Type 0
IsStaged v = StageOk (seen v) v.ext.wake

-- what a moment keeps of what a pass knows

abbrev pub wait_code : Wait → ℕ
wait_code Apart = 0
wait_code Reads = 1
wait_code Writes = 2

-- which bias it has added, and the word that the addition saw
abbrev pub bias_codes : Bias → List ℕ
bias_codes Clear = 0 ∷ 0 ∷ []
bias_codes (Transit word) = 1 ∷ word ∷ []
bias_codes (Reserve word) = 2 ∷ word ∷ []

-- nothing under way, a batch that is in the count, the first waiter to be marked, or something else
abbrev pub stage_code : Stage → ℕ
stage_code Rest = 0
stage_code Granting = 2
stage_code Marking = 3
stage_code _ = 1

-- whether it owes a wake, whether it waits, whether it is awake, how many wake words it has set, how often it has fallen asleep, and whom it has chosen
abbrev pub wake_codes : SemWake → List ℕ
wake_codes b = bit b.owing ∷ waits b.wait_state ∷ awake_bit b.wait_state ∷ b.wakes ∷ b.dozes ∷ length b.chosen ∷ b.chosen

-- how it waits, how far it is under the wait lock, how often it has appended itself, its bias, what it has of wakes, and the tasks of its batch that aren't granted yet
abbrev pub numbers_of : SemHand → ℕ → SemWake → List ℕ
numbers_of s appends b = wait_code s.wait ∷ stage_code s.stage ∷ appends ∷ (bias_codes s.bias ++ (wake_codes b ++ s.rest))

abbrev pub standing : RwSemHand → List ℕ
standing e = numbers_of e.sem e.appends e.wake

-- where the words stand: the wait lock's, and the marks, the grant words and the wake words of all tasks

abbrev pub wait_lock_at : ℕ
wait_lock_at = 0

abbrev pub marks_at : ℕ
marks_at = SPIN_ROOM + ROW_WORDS

abbrev pub grants_at : ℕ
grants_at = SPIN_ROOM + 2 * ROW_WORDS

abbrev pub wakes_at : ℕ
wakes_at = LOCK_WORDS - WAKE_WORDS

abbrev pub spin_words : List ℕ → List ℕ
spin_words ws = part wait_lock_at SPIN_WORDS ws

abbrev pub count_in : List ℕ → ℕ
count_in ws = slice_index ws count_at

abbrev pub list_words : List ℕ → List ℕ
list_words ws = part list_at LIST_WORDS ws

abbrev pub marks_in : List ℕ → List ℕ
marks_in ws = lines_in marks_at ws

abbrev pub grants_in : List ℕ → List ℕ
grants_in ws = lines_in grants_at ws

abbrev pub wake_words : List ℕ → List ℕ
wake_words ws = part wakes_at WAKE_WORDS ws

-- how many readers of the count the grant words and the batches tell of
abbrev pub more_in : Plan → List ℕ → List V → ℕ
more_in k ws vs = more_of (grants_in ws) (map seen vs)

-- only a pass that has the wait lock is at a stage
abbrev pub IsLocked : V → Type 0
IsLocked v = busy_weight v.ext.sem.stage ≤ holds_in v.spin

module _ {Call : Type 0} (o : Obj Call) (size : ℕ) where
  -- while this is the list
  pub record RwSemKept (k : Plan) (ws : List ℕ) (vs : List V) (q : List Waiter) : Type 0 where
    pub wide : length ws ≡ width k
    pub site_holds : SiteKept o counted size k (site k ws) (map hand_of vs)
    pub spin : SpinKept (spin_words ws) (map spin_part vs)
    pub list : ListKept (list_words ws) q (map (list_part list_of) vs)
    pub sem : SemKept (count_in ws) q (marks_in ws) (grants_in ws) (map seen vs)
    pub locked : Each IsLocked vs
    pub duty : DutyKept (wake_words ws) q (map (duty_seen (grants_in ws)) vs)
    pub staged : Each IsStaged vs

  abbrev pub Kept : Plan → List ℕ → List V → Type 0
  Kept k ws vs = (q : List Waiter) × RwSemKept k ws vs q

-- how often a change appends the pass that makes it
abbrev pub entered : Change → ℕ
entered Stay = 0
entered (Enter w) = 1
entered (Leave t) = 0

-- Who changes the list. A waiter enters by itself, holds nothing, and has no batch under way. It leaves by itself, again with no batch under way, or as the next of a waker's batch, behind which it
-- then stands. `rest` is the batch of the pass behind the step.
abbrev pub IsMadeBy : ℕ → List V → (rest : List ℕ) → Change → List Waiter → Type 0
IsMadeBy id vs rest Stay q = Unit {0}
IsMadeBy id vs rest (Enter w) q = (v : V) × (get_elem? vs id ≡ some v) × (v.hand.task ≡ Some w.task) × (v.hand.held ≡ No) × (v.ext.sem.rest ≡ [])
IsMadeBy id vs rest (Leave t) q = (v : V) × (get_elem? vs id ≡ some v) × (((v.hand.task ≡ Some t) × (v.ext.sem.rest ≡ [])) ⊎ (Picks (seen v) q t × (rest ≡ v.ext.sem.rest ++ t ∷ [])))

-- who ends or downgrades a hold keeps the count that its step left
abbrev pub KeepsCount : Hand → Hand → ℕ → Type 0
KeepsCount h g word = h.held ≢ No → g.held ≢ h.held → g.freed ≡ word

-- a pass whose failed try is counted waits for nothing, and has no bias in the count
abbrev pub MayMiss : V → Type 0
MayMiss v = (v.ext.sem.wait ≡ Apart) × (v.ext.sem.bias ≡ Clear)

-- What a step may do: all that each step of a site, of a spin lock and of a list does. A waiter enters by itself, and leaves by itself or in a waker's batch. While the first waiter is marked and
-- HANDOFF is set, nobody but it writes, and who reads had a bias since before, or held alone. At any time who reads comes to it by itself, with no batch under way, or in a whole batch, and does so
-- until it ends its hold. A waker or a writer of the list asks for a handoff, and marks the first waiter. A batch is granted in the order in which it was picked. Who ends or downgrades a hold keeps
-- the count that it left. Who is at a stage has the wait lock. An append is counted by the pass that enters, and a failed try by one that waits for nothing and has no bias in the count. `WakesGo`
-- says what becomes of wakes.
pub record RwSemMoves (k : Plan) (id : ℕ) (ws : List ℕ) (vs : List V) (us : List ℕ) (vs' : List V) : Type 0 where
  pub site : SiteMove id (count_in ws) (site k ws) vs (site k us) vs'
  pub spin : SpinMoves id (spin_words ws) (map spin_part vs) (spin_words us) (map spin_part vs')
  pub list : ListMoves id (list_words ws) (map (list_part list_of) vs) (list_words us) (map (list_part list_of) vs')
  pub made : IsMadeBy id vs site.after.ext.sem.rest list.change list.list
  pub hands : KeepsHandoff id (count_in ws) list.list (marks_in ws) (grants_in ws) (map seen vs) (count_in us) (marks_in us) (grants_in us) (map seen vs')
  pub freed : KeepsCount site.before.hand site.after.hand (count_in us)
  pub locked : busy_weight site.after.ext.sem.stage ≤ holds_in site.before.spin
  pub appends : site.after.ext.appends ≡ site.before.ext.appends + entered list.change
  pub missed : site.after.hand.misses ≢ site.before.hand.misses → MayMiss site.before
  pub wakes : WakesGo (count_in ws) (count_in us) list.list list.change (grants_in ws) (wake_words ws) (wake_words us) (holds_in site.before.spin) (seen site.before) (seen site.after)
      (wake_stands site.before.ext.wake) (wake_stands site.after.ext.wake)

abbrev pub may_free : V → Type 0
may_free v = (v.ext.sem.stage ≡ Rest) × (v.ext.list.changes ≡ false)

abbrev pub rests : V → Type 0
rests v = (v.ext.sem ≡ apart_hand) × IsDone v.ext.wake

-- the count says that tasks wait
abbrev pub has_waiters : ℕ → Bool
has_waiters word = word / 2 % 2 == 1

-- whether a pass owes a wake that left this count: who ends or lowers an exclusive hold does where tasks wait, and who ends a shared one where besides nobody is counted
abbrev pub owes_after : Held → Held → ℕ → Bool → Bool
owes_after Alone No word owing = has_waiters word
owes_after Alone Shared word owing = has_waiters word
owes_after Alone Alone word owing = owing
owes_after Shared No word owing = has_waiters word && is_left word
owes_after Shared Shared word owing = owing
owes_after Shared Alone word owing = owing
owes_after No held word owing = owing

-- a step on the count gives a pass this bias
abbrev pub biased : V → Hand → Bias → RwSemHand
biased v h b = record v.ext { sem = record v.ext.sem { bias = b }; wake = record v.ext.wake { owing = owes_after v.hand.held h.held h.freed v.ext.wake.owing } }

-- a pass that waits for nothing, and has no batch under way, may change how it holds and its bias: it has one of them at most, and reserves none; a bias in transit goes only for a shared hold
abbrev pub may_count : V → CountPart → Type 0
may_count v p = (v.ext.sem.wait ≡ Apart) × (held_weight p.held + (early_weight p.bias + late_weight p.bias) ≤ 1) × (reserve_weight p.bias ≡ 0) × (v.ext.sem.rest ≡ []) × (v.ext.sem.stage ≡ Rest)
    × (v.ext.wake.owing ≡ false) × (transit_weight v.ext.sem.bias ≤ shared_weight p.held + transit_weight p.bias)

-- any count may stand there
abbrev pub any_count : ℕ → Type 0
any_count word = Unit {0}

-- when a pass may change the list

-- a writer enters with no bias; a reader with its own in the count, and with 1 in its grant word
abbrev pub MayJoin : Bool → SemHand → Type 0
MayJoin true s = (s.stage ≡ Rest) × (s.bias ≡ Clear)
MayJoin false s = (s.stage ≡ Armed) × ((word : ℕ) × (s.bias ≡ Transit word))

-- a writer that took leaves
abbrev pub LeavesTaken : V → ℕ → Type 0
LeavesTaken v t = (v.ext.sem.stage ≡ Took) × (v.hand.task ≡ Some t) × (v.ext.sem.wait ≡ Writes) × (v.ext.sem.bias ≡ Clear)

-- it is the pass of this task, and has no bias
abbrev pub GivesUp : V → ℕ → Type 0
GivesUp v t = (v.hand.task ≡ Some t) × (v.ext.sem.bias ≡ Clear)

-- it is the first, and nobody is marked
abbrev pub LeavesFirst : V → List Waiter → ℕ → Type 0
LeavesFirst v q t = GivesUp v t × (v.ext.sem.stage ≡ Summing) × (v.ext.sem.rest ≡ []) × ((v.ext.sem.wait ≡ Reads) ⊎ (v.ext.sem.wait ≡ Writes)) × (first_code q ≡ t + 1)

-- it is another; a reader has seen that it isn't granted
abbrev pub LeavesBehind : V → List Waiter → ℕ → Type 0
LeavesBehind v q t = GivesUp v t × (first_code q ≢ t + 1) × (((v.ext.sem.stage ≡ Armed) × (v.ext.sem.wait ≡ Reads)) ⊎ ((v.ext.sem.stage ≡ Rest) × (v.ext.sem.wait ≡ Writes)))

abbrev pub may_change : Change → V → List Waiter → Type 0
may_change Stay v q = Unit {0}
may_change (Enter w) v q = (v.hand.task ≡ Some w.task) × (v.hand.held ≡ No) × (v.ext.sem.wait ≡ Apart) × MayJoin w.writer v.ext.sem
may_change (Leave t) v q = LeavesTaken v t ⊎ LeavesFirst v q t ⊎ LeavesBehind v q t ⊎ LeavesPicked v q t
