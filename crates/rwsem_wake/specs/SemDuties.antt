-- The wake words and the passes of a semaphore: who is to look for a first waiter, and who is to wake whom.
use Rattle.std.specs.Prelude.{◌≡◌, ℕ, zero, suc, ◌+◌, ◌<◌, ◌≤◌, ◌==◌, Bool, true, false, List, [], ◌∷◌, ◌++◌, length, Option, Some, None, if◌then◌else◌}
use Rattle.word_bits.specs.declared.TheConstants.{MAX_TASKS}
use Rattle.lock_core.specs.Records.{bit}
use Rattle.lock_core.specs.Totals.{total}
use Rattle.lock_core.specs.ViewParts.{Each}
use Rattle.lock_core.specs.Tallies.{raised}
use Rattle.rwsem_wake.specs.Types.{Waiter, WaitState, Absent, Awake, SemWake}
use Rattle.wait_list.specs.Lists.{first_code}
use Rattle.wake_duty.specs.DutyWakes.{WAKE_WORDS, wake_word, awake, waits, drowsed_at, dozed_at}

-- it owes nothing, and isn't in the list
abbrev pub no_wake : SemWake
no_wake = record { owing = false; chosen = []; wait_state = Absent; wakes = 0; dozes = 0 }

-- What of a view concerns wakes. `alone` is 1 where it writes. `guards` counts what it has in the reader field by which it keeps writers out: a shared hold, a bias in transit, a bias reserved where
-- there was no writer, and the rest of a batch that is counted. `late` is 1 where it has reserved a bias under a writer. It waits as a writer where `writes` is 1, and as a reader whose grant word is
-- 0 where `granted` is. `rest` are the tasks of its batch that aren't granted yet.
pub record DutyPart : Type 0 where
  pub task : Option ℕ
  pub alone : ℕ
  pub guards : ℕ
  pub late : ℕ
  pub writes : ℕ
  pub granted : ℕ
  pub rest : List ℕ
  pub wake : SemWake

-- weights of parts, which are added up over all views

-- how often a task stands among these
abbrev pub times : ℕ → List ℕ → ℕ
times t [] = 0
times t (u ∷ us) = bit (u == t) + times t us

-- the number, where that is so
abbrev pub where_so : ℕ → ℕ → ℕ
where_so zero n = 0
where_so (suc m) n = n

abbrev pub alone_of : DutyPart → ℕ
alone_of p = p.alone

abbrev pub late_of : DutyPart → ℕ
late_of p = p.late

abbrev pub owes : DutyPart → ℕ
owes p = bit p.wake.owing

-- it writes, or owes a wake
abbrev pub answers : DutyPart → ℕ
answers p = p.alone + owes p

-- it writes or reads, keeps writers out, or owes a wake
abbrev pub attends : DutyPart → ℕ
attends p = p.alone + p.guards + owes p

-- it has chosen this task, and hasn't set its wake word
abbrev pub chose : ℕ → DutyPart → ℕ
chose t p = times t p.wake.chosen

-- it is this task's, which is in the list, and tries, or loads its grant word, before it sleeps
abbrev pub is_awake : ℕ → DutyPart → ℕ
is_awake t p = awake t p.task p.wake.wait_state

-- it has chosen this writer, or is its pass and tries before it sleeps
abbrev pub wakes_it : ℕ → DutyPart → ℕ
wakes_it t p = chose t p + where_so p.writes (is_awake t p)

-- whether the first waiter is a writer
abbrev pub first_writes : List Waiter → ℕ
first_writes [] = 0
first_writes (w ∷ q) = bit w.writer

-- this first waiter is a writer, and somebody has chosen it, or its wake word is set, or it tries before it sleeps
abbrev pub wakes_first : List ℕ → List Waiter → List DutyPart → ℕ → ℕ
wakes_first words q ps t = where_so (first_writes q) (total (wakes_it t) ps + wake_word words t)

-- it owes nothing, has chosen nobody, and waits for nothing
pub record IsQuiet (p : DutyPart) : Type 0 where
  pub clear : p.wake.owing ≡ false
  pub none : p.wake.chosen ≡ []
  pub absent : waits p.wake.wait_state ≡ 0
  pub out : p.granted ≡ 0

-- a pass without a number is quiet; the tasks that it has chosen are tasks; those of its batch that aren't granted are among them
pub record PartOk (p : DutyPart) : Type 0 where
  pub unnamed : p.task ≡ None → IsQuiet p
  pub chosen : (t : ℕ) → 1 ≤ chose t p → t < MAX_TASKS
  pub rest : (t : ℕ) → times t p.rest ≤ chose t p

-- Of a list that isn't empty: somebody writes or reads, keeps writers out, or owes a wake; or the first waiter is a writer, and somebody has chosen it and hasn't set its wake word, or that word is
-- set, or it tries before it sleeps.
-- A bias that was reserved under a writer hides that the last reader lets go: while it stands, somebody writes, or owes a wake.
-- A reader whose grant word was cleared while it waits: somebody has chosen it and hasn't set its wake word, or that word is set, or it loads its grant word before it sleeps.
pub record DutyKept (words : List ℕ) (q : List Waiter) (ps : List DutyPart) : Type 0 where
  pub wide : length words ≡ WAKE_WORDS
  pub bits : (t : ℕ) → t < MAX_TASKS → wake_word words t ≤ 1
  pub each : Each PartOk ps
  pub first : (t : ℕ) → first_code q ≡ t + 1 → 1 ≤ total attends ps + wakes_first words q ps t
  pub late : 1 ≤ total late_of ps → 1 ≤ total answers ps
  pub granted : Each (λ p. 1 ≤ p.granted → (t : ℕ) → p.task ≡ Some t → 1 ≤ total (chose t) ps + wake_word words t + is_awake t p) ps

-- how steps change a part

-- how it holds, its biases, and whether it owes a wake
abbrev pub recounted : DutyPart → (alone guards late : ℕ) → (owing : Bool) → DutyPart
recounted p alone guards late owing = record p { alone = alone; guards = guards; late = late; wake = record p.wake { owing = owing } }

abbrev pub with_wait_state : DutyPart → WaitState → DutyPart
with_wait_state p x = record p { wake = record p.wake { wait_state = x } }

-- it enters the list
abbrev pub entering : DutyPart → Waiter → DutyPart
entering p w = record p { writes = bit w.writer; wake = record p.wake { wait_state = Awake } }

-- it waits no more, and owes a wake or not
abbrev pub leaving : DutyPart → Bool → DutyPart
leaving p owing = record p { writes = 0; granted = 0; wake = record p.wake { owing = owing; wait_state = Absent } }

-- it chooses one more task
abbrev pub choosing : DutyPart → ℕ → (rest : List ℕ) → (owing : Bool) → DutyPart
choosing p t rest owing = record p { rest = rest; wake = record p.wake { owing = owing; chosen = p.wake.chosen ++ t ∷ [] } }

-- these without the first of this task
abbrev pub less : ℕ → List ℕ → List ℕ
less t [] = []
less t (u ∷ us) = if u == t then us else u ∷ less t us

-- it sets the wake word of a task that it had chosen
abbrev pub setting : ℕ → SemWake → SemWake
setting t w = record w { chosen = less t w.chosen; wakes = raised true w.wakes }

-- it swaps its own wake word, which was so, for 0, and sleeps where that was 0
abbrev pub drowsing : ℕ → SemWake → SemWake
drowsing old w = record w { wait_state = drowsed_at old w.wait_state; dozes = dozed_at old w.dozes }

abbrev pub with_wake : DutyPart → SemWake → DutyPart
with_wake p w = record p { wake = w }
