-- The rule of a semaphore: the count, the list, the marks and grant words, and what each pass is about.
use Rattle.std.specs.Prelude.{◌≡◌, ℕ, zero, suc, ◌+◌, ◌/◌, ◌%◌, ◌<◌, ◌≤◌, true, false, List, [], ◌∷◌, ◌++◌, length, map, slice_index, Option, Some, None}
use Rattle.lock_core.specs.Records.{bit}
use Rattle.lock_core.specs.Totals.{total}
use Rattle.lock_core.specs.ViewParts.{Each}
use Rattle.lock_core.specs.Views.{number_weight}
use Rattle.rwsem_count.specs.Counts.{CountKept}
use Rattle.rwsem_wake.specs.SemParts.{SemPart, nobody, part_of, shared_of, holds_of, early_of, late_of, reads_of, transit_of, reserve_of, busy_of, granting_of, granted_of, rest_of, reads_at}
use Rattle.rwsem_wake.specs.SemParts.{writes_at, rest_at, granted_at, reader_at, writer_at, reader_of, IsWhole, some_of, marks_sum, first_mark, tasks, own_mark}
use Rattle.rwsem_wake.specs.Types.{Waiter, Clear, Apart, Stage, Rest, Armed, Joining, First, Marking, Took, Removed, Emptied, Overdue, Marked, Removing, Summing, Counted, Granting}

-- WAITERS is set exactly where somebody waits, and HANDOFF only there. The first waiter alone may be marked, and then HANDOFF is set.
pub record Quiet (w h : ℕ) (q : List Waiter) (marks : List ℕ) : Type 0 where
  pub waiters : w ≡ some_of q
  pub handoff : h ≤ w
  pub first : marks_sum marks ≡ first_mark marks (tasks q)
  pub marked : marks_sum marks ≤ h

-- one waiter is alone in the list, and no flag says so yet
abbrev pub Fresh : (w h : ℕ) → List Waiter → List ℕ → Type 0
Fresh w h q marks = (w ≡ 0) × (h ≡ 0) × (marks_sum marks ≡ 0) × (length q ≡ 1)

abbrev pub IsFirst : Option ℕ → List Waiter → Type 0
IsFirst task [] = ⊥
IsFirst task (x ∷ xs) = task ≡ Some x.task

-- what flags, marks and grant words say while a holder of the wait lock is at a stage
abbrev pub FlagsAt : Stage → Option ℕ → List ℕ → (w h : ℕ) → List Waiter → List ℕ → List ℕ → Type 0
FlagsAt Rest me rest w h q marks grants = Quiet w h q marks
FlagsAt Armed me rest w h q marks grants = Quiet w h q marks × ((t : ℕ) → me ≡ Some t → 1 ≤ slice_index grants t)
FlagsAt (Joining true) me rest w h q marks grants = Fresh w h q marks
FlagsAt (Joining false) me rest w h q marks grants = Quiet w h q marks
FlagsAt First me rest w h q marks grants = Fresh w h q marks
FlagsAt Marking me rest w h q marks grants = (w ≡ 1) × (h ≡ 1) × (marks_sum marks ≡ 0) × (1 ≤ length q)
FlagsAt Took me rest w h q marks grants = (h ≡ 0) × (w ≤ 1) × (2 ≤ length q → w ≡ 1) × (length q ≤ 1 → w ≡ 0) × (marks_sum marks ≡ own_mark marks me) × (0 < marks_sum marks → IsFirst me q)
FlagsAt Removed me rest w h q marks grants = (h ≡ 0) × (w ≡ some_of q) × (marks_sum marks ≡ own_mark marks me)
FlagsAt Emptied me rest w h q marks grants = (w ≡ 1) × (marks_sum marks ≡ 0) × (length q ≡ 0)
FlagsAt (Overdue b) me rest w h q marks grants = Quiet w h q marks × (h ≡ bit b) × (1 ≤ length q)
FlagsAt (Marked b) me rest w h q marks grants = (w ≡ 1) × (h ≡ bit b) × (marks_sum marks ≡ first_mark marks (tasks q)) × (marks_sum marks ≡ 1) × (1 ≤ length q)
FlagsAt Removing me rest w h q marks grants = (w ≡ 1) × (marks_sum marks ≡ first_mark marks (rest ++ tasks q))
FlagsAt Summing me rest w h q marks grants = (w ≡ 1) × (marks_sum marks ≡ 0)
FlagsAt (Counted b) me rest w h q marks grants = (w ≡ 1) × (marks_sum marks ≡ 0) × (h ≡ bit b) × IsWhole rest q
FlagsAt Granting me rest w h q marks grants = Quiet w h q marks

abbrev pub FlagsOf : SemPart → (w h : ℕ) → List Waiter → List ℕ → List ℕ → Type 0
FlagsOf v = FlagsAt v.sem.stage v.task v.sem.rest

-- the view at a stage, if there is one
abbrev pub pick : ℕ → SemPart → SemPart → SemPart
pick zero v other = other
pick (suc n) v other = v

abbrev pub now : List SemPart → SemPart
now [] = nobody
now (v ∷ vs) = pick (busy_of v) v (now vs)

-- where a batch's rest may be there
abbrev pub batch_weight : Stage → ℕ
batch_weight Rest = 0
batch_weight Armed = 0
batch_weight (Joining b) = 0
batch_weight First = 0
batch_weight Marking = 0
batch_weight Took = 0
batch_weight Removed = 0
batch_weight Emptied = 0
batch_weight (Overdue b) = 0
batch_weight (Marked b) = 0
batch_weight Removing = 1
batch_weight Summing = 1
batch_weight (Counted b) = 1
batch_weight Granting = 1

abbrev pub number_of : SemPart → ℕ
number_of v = number_weight v.task

-- what it may add to the count
abbrev pub load_of : SemPart → ℕ
load_of v = shared_of v + reads_of v + (early_of v + late_of v)

-- what holds of each view
pub record SemPartOk (v : SemPart) : Type 0 where
  pub rest : batch_weight v.sem.stage ≡ 0 → v.sem.rest ≡ []
  -- a pass without a number waits for nothing and has no bias
  pub numbered : v.task ≡ None → (v.sem.wait ≡ Apart) × (v.sem.bias ≡ Clear) × (v.sem.stage ≡ Rest)
  pub slim : load_of v ≤ number_of v + busy_of v
  -- who holds doesn't wait as a reader
  pub single : holds_of v + reads_of v ≤ number_of v
  -- only a holder of the wait lock reserves a bias
  pub reserved : reserve_of v ≤ busy_of v
  -- who holds has no bias in transit
  pub apart : holds_of v + transit_of v ≤ 1

abbrev pub more_of : List ℕ → List SemPart → ℕ
more_of grants vs = total (granted_of grants) vs + total granting_of vs

-- The kept rule. `more` of the count are the readers that are granted, and those in the rest of a batch that is in the count. At most one view is at a stage, and what flags, marks and grant words say
-- goes by it. Who waits stands in the list, in the rest of a batch, or is granted: of each task, and of all together.
pub record SemKept (n : ℕ) (q : List Waiter) (marks grants : List ℕ) (vs : List SemPart) : Type 0 where
  pub count : CountKept n (more_of grants vs) (map part_of vs)
  pub busy : total busy_of vs ≤ 1
  pub flags : FlagsOf (now vs) (n / 2 % 2) (n / 4 % 2) q marks grants
  pub reads : (t : ℕ) → total (reader_at t) q + total (rest_at t) vs + total (granted_at grants t) vs ≡ total (reads_at t) vs
  pub writes : (t : ℕ) → total (writer_at t) q ≡ total (writes_at t) vs
  pub members : total reader_of q + total rest_of vs + total (granted_of grants) vs ≡ total reads_of vs
  pub each : Each SemPartOk vs
