-- The wake words and the passes of a table: who has the duty to wake the first waiter.
use Rattle.std.specs.Prelude.{◌≡◌, ℕ, zero, suc, ◌+◌, ◌*◌, ◌%◌, ◌<◌, ◌≤◌, ◌==◌, Bool, true, false, List, length, slice_index, Option, Some, None}
use Rattle.word_bits.specs.declared.TheConstants.{MAX_TASKS}
use Rattle.wake_duty.specs.Types.{View, Held, No, Waiter, Duty, NoDuty, Owing, Chosen, WaitState, Absent, Awake, Tried, WakeHand}
use Rattle.lock_core.specs.Records.{bit}
use Rattle.lock_core.specs.Views.{held_weight, is_number}
use Rattle.lock_core.specs.Spins.{holds_in}
use Rattle.lock_core.specs.Tallies.{raised}
use Rattle.lock_core.specs.Totals.{total}
use Rattle.lock_core.specs.ViewParts.{Each}
use Rattle.wait_list.specs.Lists.{first_code}

-- a line of 8 words for each task
abbrev pub WAKE_WORDS : ℕ
WAKE_WORDS = 8 * MAX_TASKS

-- the wake word of a task
abbrev pub wake_word : List ℕ → ℕ → ℕ
wake_word words t = slice_index words (8 * t)

-- it owes nothing, and isn't in the list
abbrev pub no_wake : WakeHand
no_wake = record { duty = NoDuty; wait_state = Absent; wakes = 0; dozes = 0 }

-- what of a view concerns wakes
pub record WakePart : Type 0 where
  pub task : Option ℕ
  pub held : Held
  pub freed : ℕ
  pub locked : ℕ
  pub entries : ℕ
  pub wake : WakeHand

-- weights of parts, which are added up over all views

-- it ended its hold with the flag of the waiters, and has chosen nobody
abbrev pub owed : Duty → ℕ → ℕ
owed NoDuty freed = 0
owed Owing freed = freed % 2
owed (Chosen t) freed = 0

-- it has chosen this task, and hasn't set its wake word
abbrev pub chose : ℕ → Duty → ℕ
chose t NoDuty = 0
chose t Owing = 0
chose t (Chosen u) = bit (u == t)

abbrev pub chose_any : Duty → ℕ
chose_any NoDuty = 0
chose_any Owing = 0
chose_any (Chosen u) = 1

-- it is this task's, which is in the list, and tries before it sleeps
abbrev pub awake : ℕ → Option ℕ → WaitState → ℕ
awake t task Absent = 0
awake t task Awake = is_number t task
awake t task (Tried n) = 0

abbrev pub waits : WaitState → ℕ
waits Absent = 0
waits Awake = 1
waits (Tried n) = 1

-- it holds, or ended its hold with the flag of the waiters and has chosen nobody
abbrev pub guards : WakePart → ℕ
guards p = held_weight p.held + owed p.wake.duty p.freed

-- it keeps this waiter, where it is the first, from being forgotten
abbrev pub keeps_awake : ℕ → WakePart → ℕ
keeps_awake t p = guards p + chose t p.wake.duty + awake t p.task p.wake.wait_state

-- what it owes
abbrev pub debt : WakePart → ℕ
debt p = owed p.wake.duty p.freed + chose_any p.wake.duty

-- the first waiter has the wait lock, and a try of it failed since it took it
pub record IsStuck (l : List Waiter) (p : WakePart) : Type 0 where
  pub locked : p.locked ≡ 1
  pub tried : p.wake.wait_state ≡ Tried p.entries
  pub first : (t : ℕ) × (p.task ≡ Some t) × (first_code l ≡ t + 1)

-- it owes nothing, isn't in the list, and holds nothing
pub record IsQuiet (p : WakePart) : Type 0 where
  pub clear : debt p ≡ 0
  pub absent : waits p.wake.wait_state ≡ 0
  pub out : p.held ≡ No

-- who waits or has no number owes nothing; only a task with a number waits; a stamp is of the past
pub record PartOk (p : WakePart) : Type 0 where
  pub waiter : 0 < waits p.wake.wait_state → debt p ≡ 0
  pub named : p.task ≡ None → IsQuiet p
  pub past : (e : ℕ) → p.wake.wait_state ≡ Tried e → e ≤ p.entries
  pub chosen : (t : ℕ) → p.wake.duty ≡ Chosen t → t < MAX_TASKS

-- Of a first waiter: somebody holds, or ended its hold with the flag of the waiters and has chosen nobody. Or somebody has chosen this task and hasn't set its wake word. Or that word is set. Or the
-- task is awake, and tries before it sleeps. From a failed try under the wait lock on, while the first waiter has it, somebody holds, or ended its hold with the flag of the waiters and has chosen
-- nobody.
pub record WakeKept (words : List ℕ) (l : List Waiter) (ps : List WakePart) : Type 0 where
  pub wide : length words ≡ WAKE_WORDS
  pub bits : (t : ℕ) → t < MAX_TASKS → wake_word words t ≤ 1
  pub each : Each PartOk ps
  pub first : (t : ℕ) → first_code l ≡ t + 1 → 1 ≤ total (keeps_awake t) ps + wake_word words t
  pub stuck : Each (λ p. IsStuck l p → 1 ≤ total guards ps) ps

-- how steps change what it knows of wakes

-- the task that this code names
abbrev pub duty_of : ℕ → Duty
duty_of zero = NoDuty
duty_of (suc t) = Chosen t

-- a debt with the flag of the waiters becomes the choice of the first waiter
abbrev pub choosing : Duty → ℕ → ℕ → Duty
choosing NoDuty flag code = NoDuty
choosing Owing zero code = Owing
choosing Owing (suc n) code = duty_of code
choosing (Chosen t) flag code = Chosen t

abbrev pub awakened : WaitState → WaitState
awakened Absent = Absent
awakened Awake = Awake
awakened (Tried n) = Awake

abbrev pub after_failed_try : WaitState → ℕ → WaitState
after_failed_try Absent entries = Absent
after_failed_try Awake entries = Tried entries
after_failed_try (Tried n) entries = Tried entries

-- how its task waits after a failed try, with or without the wait lock
abbrev pub tried_at : ℕ → ℕ → WaitState → WaitState
tried_at zero entries x = x
tried_at (suc n) entries x = after_failed_try x entries

-- a try fails, with or without the wait lock
abbrev pub failing : ℕ → ℕ → WakeHand → WakeHand
failing locked entries w = record w { wait_state = tried_at locked entries w.wait_state }

-- how its task waits, and what it owes, after a look at the first word, with or without the wait lock
abbrev pub looked_at : ℕ → WaitState → WaitState
looked_at zero x = awakened x
looked_at (suc n) x = x

abbrev pub owing_at : ℕ → Bool → ℕ → ℕ → Duty → Duty
owing_at zero changes freed code d = d
owing_at (suc n) true freed code d = d
owing_at (suc n) false freed code d = choosing d (freed % 2) code

-- it sees this first word, with or without the wait lock, which is that of the list where nobody changes it
abbrev pub looking : ℕ → Bool → ℕ → ℕ → WakeHand → WakeHand
looking locked changes freed code w = record w { duty = owing_at locked changes freed code w.duty; wait_state = looked_at locked w.wait_state }

-- it sets the wake word that it has chosen
abbrev pub setting : WakeHand → WakeHand
setting w = record w { duty = NoDuty; wakes = raised true w.wakes }

abbrev pub drowsed_at : ℕ → WaitState → WaitState
drowsed_at zero x = x
drowsed_at (suc n) x = Awake

abbrev pub dozed_at : ℕ → ℕ → ℕ
dozed_at zero dozes = raised true dozes
dozed_at (suc n) dozes = dozes

-- it swaps its own wake word for 0, and sleeps where that was 0
abbrev pub drowsing : ℕ → WakeHand → WakeHand
drowsing old w = record w { wait_state = drowsed_at old w.wait_state; dozes = dozed_at old w.dozes }

module _ {E : Type 0} (wake : E → WakeHand) where
  abbrev pub wake_part : View E → WakePart
  wake_part v = record { task = v.hand.task; held = v.hand.held; freed = v.hand.freed; locked = holds_in v.spin; entries = v.spin.entries; wake = wake v.ext }

  -- what its view has of it
  abbrev pub wake_at : View E → WakeHand
  wake_at v = wake v.ext

module _ {E : Type 0} (with_wake : E → WakeHand → E) where
  -- a step that gives a pass this part
  abbrev pub waked : View E → WakeHand → View E
  waked v b = record v { steps = v.steps + 1; ext = with_wake v.ext b }

-- the kinds of step on a wake word: the task that was chosen is woken; a task that tried and doesn't have the wait lock drowses
abbrev pub Sets : ℕ → ℕ → WakePart → WakeHand → Type 0
Sets t new p b = (p.wake.duty ≡ Chosen t) × (new ≡ 1) × (b ≡ setting p.wake)

abbrev pub Drowses : ℕ → ℕ → ℕ → WakePart → WakeHand → Type 0
Drowses t old new p b = (p.task ≡ Some t) × (p.locked ≡ 0) × ((e : ℕ) × (p.wake.wait_state ≡ Tried e)) × (new ≡ 0) × (b ≡ drowsing old p.wake)

abbrev pub with_hand : WakePart → WakeHand → WakePart
with_hand p b = record p { wake = b }
