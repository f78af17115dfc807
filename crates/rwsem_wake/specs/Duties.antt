-- What of a semaphore's pass concerns wakes, and what a step on the count, a mark or a grant word makes of it.
use Rattle.std.specs.Prelude.{◌≡◌, ◌≢◌, ℕ, zero, suc, ◌+◌, ◌-◌, ◌/◌, ◌%◌, ◌≤◌, ◌==◌, ◌⊎◌, ◌&&◌, Bool, true, false, List, ◌∷◌, length, slice_set, Option, Some, None, if◌then◌else◌}
use Rattle.lock_core.specs.Totals.{total}
use Rattle.lock_core.specs.ViewParts.{Each}
use Rattle.wait_list.specs.Lists.{first_code}
use Rattle.wake_duty.specs.DutyWakes.{after_failed_try}
use Rattle.rwsem_wake.specs.SemDuties.{DutyPart}
use Rattle.rwsem_wake.specs.SemParts.{SemPart, alone_of, busy_of, granted_of, granting_of, shared_of, transit_of, writes_weight}
use Rattle.rwsem_wake.specs.Grants.{reserved, unreserved}
use Rattle.rwsem_wake.specs.Types.{Shared, Alone, View, ListHand, Waiter, Absent, Awake, SemWake, Bias, Clear, Transit, Reserve, Apart, Reads, Writes, Stage, Rest, Armed, Joining, First}
use Rattle.rwsem_wake.specs.Types.{Marking, Took, Removed, Emptied, Overdue, Marked, Removing, Summing, Counted, Granting}

-- a bias that keeps writers out: one in transit, or one reserved where there was no writer
abbrev pub kept_weight : Bias → ℕ
kept_weight Clear = 0
kept_weight (Transit word) = 1
kept_weight (Reserve word) = 1 - word % 2

-- one reserved under a writer
abbrev pub overdue_weight : Bias → ℕ
overdue_weight Clear = 0
overdue_weight (Transit word) = 0
overdue_weight (Reserve word) = word % 2

abbrev pub kept_of : SemPart → ℕ
kept_of v = kept_weight v.sem.bias

abbrev pub overdue_of : SemPart → ℕ
overdue_of v = overdue_weight v.sem.bias

-- what it has in the reader field by which it keeps writers out
abbrev pub guards_of : List ℕ → SemPart → ℕ
guards_of grants v = shared_of v + kept_of v + granted_of grants v + granting_of v

abbrev pub writes_of : SemPart → ℕ
writes_of v = writes_weight v.sem.wait

-- what of a pass concerns wakes, by these grant words
abbrev pub duty_of : List ℕ → SemPart → SemWake → DutyPart
duty_of grants v b = record { task = v.task; alone = alone_of v; guards = guards_of grants v; late = overdue_of v; writes = writes_of v; granted = granted_of grants v; rest = v.sem.rest; wake = b }

-- a stage by which its pass is to set WAITERS, or holds alone
abbrev pub begun_weight : Stage → ℕ
begun_weight Rest = 0
begun_weight Armed = 0
begun_weight (Joining b) = 1
begun_weight First = 1
begun_weight Marking = 0
begun_weight Took = 1
begun_weight Removed = 0
begun_weight Emptied = 0
begun_weight (Overdue b) = 0
begun_weight (Marked b) = 0
begun_weight Removing = 0
begun_weight Summing = 0
begun_weight (Counted b) = 0
begun_weight Granting = 0

-- one at which WAITERS is set
abbrev pub waited_weight : Stage → ℕ
waited_weight Rest = 0
waited_weight Armed = 0
waited_weight (Joining b) = 0
waited_weight First = 0
waited_weight Marking = 1
waited_weight Took = 0
waited_weight Removed = 0
waited_weight Emptied = 1
waited_weight (Overdue b) = 1
waited_weight (Marked b) = 1
waited_weight Removing = 1
waited_weight Summing = 1
waited_weight (Counted b) = 1
waited_weight Granting = 0

-- a reader that joins has its bias in transit; a writer that is to set WAITERS tries before it sleeps; a writer that took holds; and a bias that came under a writer stands only while WAITERS does
pub record StageOk (v : SemPart) (b : SemWake) : Type 0 where
  pub joining : (x : Bool) → v.sem.stage ≡ Joining x → 1 ≤ transit_of v
  pub first : v.sem.stage ≡ First → (b.wait_state ≡ Awake) × (v.sem.wait ≡ Writes)
  pub took : v.sem.stage ≡ Took → v.held ≡ Alone
  pub waited : 1 ≤ overdue_of v → waited_weight v.sem.stage ≡ 1

-- what becomes of what a pass knows of wakes

-- it is to look for nobody
abbrev pub paid : SemWake → SemWake
paid b = record b { owing = false }

-- the count has neither a writer nor a reader
abbrev pub is_left : ℕ → Bool
is_left word = (word % 2 == 0) && (word / 256 == 0)

-- it gave its bias back, and left this count
abbrev pub left_by : ℕ → SemWake → SemWake
left_by word b = record b { owing = is_left word }

-- it waits for nothing
abbrev pub heard_by : SemWake → SemWake
heard_by b = record b { wait_state = Absent }

-- it has tried, and may sleep
abbrev pub after_failed_try_by : SemWake → SemWake
after_failed_try_by b = record b { wait_state = after_failed_try b.wait_state 0 }

-- the same, unless that is so
abbrev pub after_failed_try_unless : Bool → SemWake → SemWake
after_failed_try_unless true b = b
after_failed_try_unless false b = after_failed_try_by b

-- a queued writer saw this count under the wait lock, which it can't have unless the count is free
abbrev pub saw_count : ℕ → SemWake → SemWake
saw_count word b = after_failed_try_unless (is_left word) b

-- its exchange of this count found that one, and took where both are the same
abbrev pub exchanged : (old found : ℕ) → SemWake → SemWake
exchanged old found b = if found == old then b else saw_count found b

-- whether this is the code of the pass's task
abbrev pub is_own : Option ℕ → ℕ → Bool
is_own None code = false
is_own (Some t) code = code == t + 1

-- the first waiter of the list that it knows is its own task
abbrev pub sees_itself : {E : Type 0} → (E → ListHand) → View E → Bool
sees_itself list v = is_own v.hand.task (first_code (list v.ext).list)

-- it saw this mark of the first waiter, which is its own task or not
abbrev pub saw_mark : Bool → ℕ → SemWake → SemWake
saw_mark true mark b = b
saw_mark false zero b = b
saw_mark false (suc mark) b = after_failed_try_by b

-- a reader loaded this grant word, without the wait lock or with it
abbrev pub heard_at : ℕ → SemWake → SemWake
heard_at zero b = heard_by b
heard_at (suc word) b = after_failed_try_by b

abbrev pub heard_locked_at : ℕ → SemWake → SemWake
heard_locked_at zero b = heard_by b
heard_locked_at (suc word) b = b

-- kinds of step; `v`, `b` stand before it, `u`, `w` behind it

-- a stage is begun by no step on these words
abbrev pub StageGoes : SemPart → SemPart → Type 0
StageGoes v u = ((begun_weight u.sem.stage ≡ 0) ⊎ (u ≡ v)) × ((overdue_of u ≡ 0) ⊎ (waited_weight v.sem.stage ≤ waited_weight u.sem.stage))

abbrev pub SameGrants : List ℕ → List ℕ → List SemPart → Type 0
SameGrants grants grants' vs = Each (λ x. granted_of grants' x ≡ granted_of grants x) vs

-- its pass alone has the wait lock
abbrev pub IsOnly : List SemPart → SemPart → Type 0
IsOnly vs v = total busy_of vs ≡ busy_of v

-- it keeps writers out no less. It comes to hold shared, or holds as before and keeps its bias in transit.
pub record Keeps (grants grants' : List ℕ) (v u : SemPart) (b w : SemWake) : Type 0 where
  pub stage : StageGoes v u
  pub alone : alone_of u ≡ alone_of v
  pub guards : guards_of grants v ≤ guards_of grants' u
  pub late : overdue_of u ≡ overdue_of v
  pub writes : writes_of u ≡ writes_of v
  pub granted : granted_of grants' u ≡ granted_of grants v
  pub rest : u.sem.rest ≡ v.sem.rest
  pub stays : (u.held ≡ Shared) ⊎ ((u.held ≡ v.held) × (transit_of v ≤ transit_of u))
  pub wake : w ≡ b

-- it reserves a bias, and has looked by that
abbrev pub ReservesBias : ℕ → List SemPart → SemPart → SemPart → SemWake → SemWake → Type 0
ReservesBias n vs v u b w = IsOnly vs v × (v.sem.bias ≡ Clear) × (granting_of v ≡ 0) × (u ≡ record v { sem = reserved v.sem n }) × (w ≡ paid b)

-- it takes a bias back that came under a writer
abbrev pub ReturnsLate : List SemPart → SemPart → SemPart → SemWake → SemWake → Type 0
ReturnsLate vs v u b w = IsOnly vs v × ((m : ℕ) × (v.sem.bias ≡ Reserve m) × (m % 2 ≡ 1)) × (granting_of v ≡ 0) × (u ≡ record v { sem = unreserved v.sem }) × (w ≡ b)

-- a reader that joined, and owed nothing, takes its bias back, and owes a wake where nobody else is counted
abbrev pub ReturnsOwn : (n' : ℕ) → List SemPart → SemPart → SemPart → SemWake → SemWake → Type 0
ReturnsOwn n' vs v u b w = IsOnly vs v × ((m : ℕ) × (v.sem.bias ≡ Transit m)) × (b.owing ≡ false) × (u ≡ record v { sem = unreserved v.sem }) × (w ≡ left_by n' b)

-- a writer takes
abbrev pub TakesAlone : SemPart → SemPart → SemWake → SemWake → Type 0
TakesAlone v u b w = (u ≡ record v { held = Alone; sem = record v.sem { stage = Took } }) × (overdue_of v ≡ 0) × (w ≡ b)

-- a granted reader hears so
abbrev pub HearsGrant : List ℕ → SemPart → SemPart → SemWake → SemWake → Type 0
HearsGrant grants v u b w = (v.sem.wait ≡ Reads) × (granted_of grants v ≡ 1) × (v.sem.stage ≡ Rest) × (shared_of v ≡ 0) × (alone_of v ≡ 0)
    × (u ≡ record v { held = Shared; sem = record v.sem { wait = Apart } }) × (b.owing ≡ false) × (w ≡ heard_by b)

-- why a waiter may sleep: it reads, and isn't granted; or it writes, and somebody holds or is counted as a reader, or it isn't the first
abbrev pub MayTire : ℕ → List Waiter → List ℕ → List SemPart → SemPart → Type 0
MayTire n q grants vs v = ((v.sem.wait ≡ Reads) × (granted_of grants v ≡ 0))
    ⊎ ((v.sem.wait ≡ Writes) × (((is_left n ≡ false) × IsOnly vs v × (overdue_of v ≡ 0)) ⊎ ((t : ℕ) → v.task ≡ Some t → first_code q ≢ t + 1)))

-- its try fails
abbrev pub FailsWaiting : ℕ → List Waiter → List ℕ → List SemPart → SemPart → SemPart → SemWake → SemWake → Type 0
FailsWaiting n q grants vs v u b w = MayTire n q grants vs v × ((s : Stage) × (u ≡ record v { sem = record v.sem { stage = s } }) × (begun_weight s ≡ 0) × (granting_of u ≡ granting_of v)
    × ((overdue_of v ≡ 0) ⊎ (waited_weight v.sem.stage ≤ waited_weight s))) × (w ≡ after_failed_try_by b)

-- it has left the list empty
abbrev pub LeavesEmpty : List Waiter → List SemPart → SemPart → SemPart → SemWake → SemWake → Type 0
LeavesEmpty q vs v u b w = IsOnly vs v × (first_code q ≡ 0) × (v.sem.bias ≡ Clear) × (v.sem.stage ≡ Emptied) × (u ≡ record v { sem = record v.sem { stage = Rest } }) × (w ≡ paid b)

-- it clears the grant word of the next of its batch
abbrev pub GrantsTask : (n n' : ℕ) → List ℕ → List ℕ → SemPart → SemPart → SemWake → SemWake → Type 0
GrantsTask n n' grants grants' v u b w = (n' ≡ n) × ((t : ℕ) × (ts : List ℕ) × (s : Stage) × (v.sem.rest ≡ t ∷ ts) × (v.sem.stage ≡ Granting) × (grants' ≡ slice_set grants t 0)
    × (u ≡ record v { sem = record v.sem { rest = ts; stage = s } }) × (granting_of u ≡ length ts) × (begun_weight s ≡ 0)) × (v.sem.bias ≡ Clear) × (w ≡ b)

-- what a step on one of these words makes of wakes
abbrev pub WakeGoes : (n : ℕ) → List Waiter → List ℕ → List SemPart → (n' : ℕ) → List ℕ → SemPart → SemPart → SemWake → SemWake → Type 0
WakeGoes n q grants vs n' grants' v u b w = (SameGrants grants grants' vs × (Keeps grants grants' v u b w
    ⊎ ReservesBias n vs v u b w
    ⊎ ReturnsLate vs v u b w
    ⊎ ReturnsOwn n' vs v u b w
    ⊎ TakesAlone v u b w
    ⊎ HearsGrant grants v u b w
    ⊎ FailsWaiting n q grants vs v u b w
    ⊎ LeavesEmpty q vs v u b w))
    ⊎ GrantsTask n n' grants grants' v u b w
