-- What a pass knows of a semaphore's table, and what a look at the list's head or a change of the list makes of that.
use Rattle.std.specs.Prelude.{◌≡◌, ℕ, ◌+◌, ◌<◌, ◌≤◌, ◌==◌, ◌&&◌, ◌⊎◌, true, false, List, [], ◌∷◌, ◌++◌, length, Bool, Option, Some, None, if◌then◌else◌}
use Rattle.word_bits.specs.declared.TheConstants.{MAX_TASKS}
use Rattle.lock_core.specs.declared.layout.TheConstants.{SPIN_ROOM}
use Rattle.lock_core.specs.Spins.{holds_in}
use Rattle.rwsem_wake.specs.SemDuties.{times, setting}
use Rattle.rwsem_wake.specs.SemParts.{SemPart}
use Rattle.rwsem_wake.specs.GrantsStated.{Picks}
use Rattle.rwsem_wake.specs.Grants.{KeepsOut, sem_part}
use Rattle.rwsem_wake.specs.Duties.{paid}
use Rattle.rwsem_wake.specs.Types.{View, Held, No, Shared, Alone, Waiter, Change, Stay, Enter, Leave, ListHand, Absent, Awake, SemWake, Bias, Clear, Transit, Reserve, RwSemHand, SemHand}
use Rattle.rwsem_wake.specs.Types.{Wait, Apart, Reads, Writes, Stage, Rest, Armed, Joining, First, Took, Removed, Emptied, Overdue, Removing, Summing}

abbrev pub V : Type 0
V = View RwSemHand

abbrev pub list_of : RwSemHand → ListHand
list_of e = e.list

abbrev pub sem_of : RwSemHand → SemHand
sem_of e = e.sem

abbrev pub with_sem : RwSemHand → SemHand → RwSemHand
with_sem e s = record e { sem = s }

abbrev pub wake_of : RwSemHand → SemWake
wake_of e = e.wake

abbrev pub with_wake : RwSemHand → SemWake → RwSemHand
with_wake e b = record e { wake = b }

-- it has chosen this task, and hasn't set its wake word, and each of its batch is granted
abbrev pub HasChosen : RwSemHand → ℕ → Type 0
HasChosen e t = (1 ≤ times t e.wake.chosen) × (e.sem.rest ≡ []) × (t < MAX_TASKS)

abbrev pub after_set : RwSemHand → ℕ → RwSemHand
after_set e t = with_wake e (setting t e.wake)

-- what of a view concerns the count, the marks and the grant words
abbrev pub seen : V → SemPart
seen v = sem_part sem_of v

-- where the count, the owner hint and the words of the list stand

abbrev pub count_at : ℕ
count_at = SPIN_ROOM

abbrev pub hint_at : ℕ
hint_at = SPIN_ROOM + 8

abbrev pub list_at : ℕ
list_at = SPIN_ROOM + 16

-- it owes nothing, has chosen nobody, and waits for nothing
pub record IsDone (b : SemWake) : Type 0 where
  pub clear : b.owing ≡ false
  pub none : b.chosen ≡ []
  pub absent : b.wait_state ≡ Absent

-- who appends itself, to a list that is then so long
abbrev pub joined : Bool → ℕ → SemHand → SemHand
joined writer long s = record s { wait = if writer then Writes else Reads; stage = if writer then (if long == 1 then First else Rest) else Joining (long == 1) }

-- it leaves the list at this stage
abbrev pub gone : Stage → SemHand → SemHand
gone stage s = record s { wait = Apart; stage = stage }

-- it removes this task as the next of its batch
abbrev pub picked : ℕ → SemHand → SemHand
picked t s = record s { rest = s.rest ++ t ∷ []; stage = Removing }

-- a task leaves a list that is then so long. From these stages it is the pass's own: a writer that took, a waiter that gives up as the first and isn't marked, and one that does so behind the first.
-- From any other it is one of a batch.
abbrev pub parted : Stage → Wait → (t long : ℕ) → SemHand → SemHand
parted Took wait t long s = gone Removed s
parted Summing wait t long s = gone (if long == 0 then Emptied else Rest) s
parted Armed wait t long s = gone Rest s
parted Rest Writes t long s = gone Rest s
parted _ wait t long s = picked t s

-- it leaves the list, and owes a wake or not
abbrev pub leaves_wake : Bool → SemWake → SemWake
leaves_wake owing b = record b { owing = owing; wait_state = Absent }

-- it chooses this task, and has looked by that
abbrev pub chooses_task : ℕ → SemWake → SemWake
chooses_task t b = record b { owing = false; chosen = b.chosen ++ t ∷ [] }

-- what it knows of wakes when a task leaves the list so
abbrev pub parted_wake : Stage → Wait → ℕ → SemWake → SemWake
parted_wake Took wait t b = leaves_wake b.owing b
parted_wake Summing wait t b = leaves_wake true b
parted_wake Armed wait t b = leaves_wake b.owing b
parted_wake Rest Writes t b = leaves_wake b.owing b
parted_wake _ wait t b = chooses_task t b

abbrev pub with_list : Change → V → ListHand → RwSemHand
with_list Stay v b = record v.ext { list = b }
with_list (Enter w) v b = record { list = b; sem = joined w.writer (length b.list) v.ext.sem; appends = v.ext.appends + 1; wake = record v.ext.wake { wait_state = Awake } }
with_list (Leave t) v b = record {
  list = b;
  sem = parted v.ext.sem.stage v.ext.sem.wait t (length b.list) v.ext.sem;
  appends = v.ext.appends;
  wake =
      parted_wake v.ext.sem.stage v.ext.sem.wait t v.ext.wake;
}

abbrev pub is_clear : Bias → Bool
is_clear Clear = true
is_clear (Transit word) = false
is_clear (Reserve word) = false

abbrev pub has_number : Option ℕ → Bool
has_number None = false
has_number (Some t) = true

-- a pass with a number that knows the list, and has no bias
abbrev pub may_look : V → Bool
may_look v = (holds_in v.spin == 1) && (v.ext.list.since == v.spin.entries) && is_clear v.ext.sem.bias && has_number v.hand.task

-- who keeps writers out by its hold chooses no writer
abbrev pub looks_at : Held → Bool → ℕ → SemWake → SemWake
looks_at No true t b = chooses_task t b
looks_at Alone true t b = chooses_task t b
looks_at Shared true t b = paid b
looks_at held false t b = b

-- a look at this list, which it knows or not: where nobody waits it has looked, and where the first waiter is a writer it chooses that one
abbrev pub looked : Bool → Held → List Waiter → SemWake → SemWake
looked false held q b = b
looked true held [] b = paid b
looked true held (w ∷ q) b = looks_at held w.writer w.task b

-- a look at the head under the wait lock is the look that pays for a wake
abbrev pub saw_first : V → ℕ → RwSemHand
saw_first v n = record v.ext { wake = looked (may_look v) v.hand.held v.ext.list.list v.ext.wake }

-- where a waker begins, or goes on, to remove its batch: one that holds shared without a reserved bias, one that has reserved one, and one whose batch has begun
abbrev pub MayPick : SemHand → Type 0
MayPick s = ((s.stage ≡ Rest) × (s.wait ≡ Apart)) ⊎ ((b : Bool) × (s.stage ≡ Overdue b)) ⊎ (s.stage ≡ Removing)

-- a task leaves as the next of the pass's batch, which keeps writers out
abbrev pub LeavesPicked : V → List Waiter → ℕ → Type 0
LeavesPicked v q t = MayPick v.ext.sem × ((own : ℕ) × (v.hand.task ≡ Some own)) × Picks (seen v) q t × KeepsOut sem_of v
