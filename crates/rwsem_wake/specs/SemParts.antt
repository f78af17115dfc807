-- What of a view concerns a semaphore, and what it weighs in the sums of its rule.
use Rattle.std.specs.Prelude.{◌≡◌, ℕ, zero, suc, ◌+◌, ◌*◌, ◌==◌, ◌⊎◌, Bool, true, false, List, [], ◌∷◌, length, slice_index, Option, Some, None}
use Rattle.rwsem_wake.specs.Types.{Held, No, Waiter, Wait, Apart, Reads, Writes, Bias, Clear, Transit, Reserve, Stage, Rest, Armed, Joining, First, Marking, Took, Removed, Emptied, Overdue}
use Rattle.rwsem_wake.specs.Types.{Marked, Removing, Summing, Counted, Granting, SemHand}
use Rattle.lock_core.specs.Records.{bit}
use Rattle.lock_core.specs.Views.{is_number, alone_weight, held_weight}
use Rattle.lock_core.specs.Totals.{total}
use Rattle.rwsem_wake.specs.declared.batches.TheConstants.{MAX_READERS_WAKEUP}
use Rattle.rwsem_count.specs.Counts.{CountPart, shared_weight, early_weight, late_weight}

-- what of a view concerns the semaphore
pub record SemPart : Type 0 where
  pub task : Option ℕ
  pub held : Held
  pub sem : SemHand

abbrev pub apart_hand : SemHand
apart_hand = record { wait = Apart; bias = Clear; stage = Rest; rest = [] }

abbrev pub nobody : SemPart
nobody = record { task = None; held = No; sem = apart_hand }

-- what the count has of it
abbrev pub part_of : SemPart → CountPart
part_of v = record { held = v.held; bias = v.sem.bias }

-- weights

abbrev pub transit_weight : Bias → ℕ
transit_weight Clear = 0
transit_weight (Transit b) = 1
transit_weight (Reserve b) = 0

abbrev pub reserve_weight : Bias → ℕ
reserve_weight Clear = 0
reserve_weight (Transit b) = 0
reserve_weight (Reserve b) = 1

abbrev pub reads_weight : Wait → ℕ
reads_weight Apart = 0
reads_weight Reads = 1
reads_weight Writes = 0

abbrev pub writes_weight : Wait → ℕ
writes_weight Apart = 0
writes_weight Reads = 0
writes_weight Writes = 1

abbrev pub busy_weight : Stage → ℕ
busy_weight Rest = 0
busy_weight Armed = 1
busy_weight (Joining b) = 1
busy_weight First = 1
busy_weight Marking = 1
busy_weight Took = 1
busy_weight Removed = 1
busy_weight Emptied = 1
busy_weight (Overdue b) = 1
busy_weight (Marked b) = 1
busy_weight Removing = 1
busy_weight Summing = 1
busy_weight (Counted b) = 1
busy_weight Granting = 1

-- a batch's rest, where it is in the count
abbrev pub granting_weight : Stage → ℕ → ℕ
granting_weight Rest n = 0
granting_weight Armed n = 0
granting_weight (Joining b) n = 0
granting_weight First n = 0
granting_weight Marking n = 0
granting_weight Took n = 0
granting_weight Removed n = 0
granting_weight Emptied n = 0
granting_weight (Overdue b) n = 0
granting_weight (Marked b) n = 0
granting_weight Removing n = 0
granting_weight Summing n = 0
granting_weight (Counted b) n = 0
granting_weight Granting n = n

abbrev pub is_zero : ℕ → ℕ
is_zero zero = 1
is_zero (suc n) = 0

-- a reader whose grant word is 0
abbrev pub granted_weight : List ℕ → Option ℕ → Wait → ℕ
granted_weight grants None wait = 0
granted_weight grants (Some t) Apart = 0
granted_weight grants (Some t) Reads = is_zero (slice_index grants t)
granted_weight grants (Some t) Writes = 0

-- so it is, and it is this task
abbrev pub named_weight : (t : ℕ) → Option ℕ → ℕ → ℕ
named_weight t task zero = 0
named_weight t task (suc n) = is_number t task

abbrev pub here : ℕ → List ℕ → ℕ
here t [] = 0
here t (u ∷ us) = bit (u == t) + here t us

abbrev pub shared_of : SemPart → ℕ
shared_of v = shared_weight v.held

abbrev pub alone_of : SemPart → ℕ
alone_of v = alone_weight v.held

-- whether it holds, shared or alone
abbrev pub holds_of : SemPart → ℕ
holds_of v = held_weight v.held

abbrev pub transit_of : SemPart → ℕ
transit_of v = transit_weight v.sem.bias

abbrev pub reserve_of : SemPart → ℕ
reserve_of v = reserve_weight v.sem.bias

abbrev pub early_of : SemPart → ℕ
early_of v = early_weight v.sem.bias

abbrev pub late_of : SemPart → ℕ
late_of v = late_weight v.sem.bias

abbrev pub granting_of : SemPart → ℕ
granting_of v = granting_weight v.sem.stage (length v.sem.rest)

abbrev pub granted_of : List ℕ → SemPart → ℕ
granted_of grants v = granted_weight grants v.task v.sem.wait

abbrev pub reads_of : SemPart → ℕ
reads_of v = reads_weight v.sem.wait

abbrev pub busy_of : SemPart → ℕ
busy_of v = busy_weight v.sem.stage

abbrev pub rest_of : SemPart → ℕ
rest_of v = length v.sem.rest

-- of one task
abbrev pub granted_at : List ℕ → ℕ → SemPart → ℕ
granted_at grants t v = named_weight t v.task (granted_of grants v)

abbrev pub reads_at : ℕ → SemPart → ℕ
reads_at t v = named_weight t v.task (reads_of v)

abbrev pub writes_at : ℕ → SemPart → ℕ
writes_at t v = named_weight t v.task (writes_weight v.sem.wait)

abbrev pub rest_at : ℕ → SemPart → ℕ
rest_at t v = here t v.sem.rest

-- the list

abbrev pub reader_bit : Bool → ℕ
reader_bit true = 0
reader_bit false = 1

abbrev pub reader_at : ℕ → Waiter → ℕ
reader_at t w = reader_bit w.writer * bit (w.task == t)

abbrev pub writer_at : ℕ → Waiter → ℕ
writer_at t w = bit w.writer * bit (w.task == t)

abbrev pub reader_of : Waiter → ℕ
reader_of w = reader_bit w.writer

-- a batch that has left this list is whole: no reader is left, or it has as many as one wake grants
abbrev pub IsWhole : List ℕ → List Waiter → Type 0
IsWhole batch q = (total reader_of q ≡ 0) ⊎ (length batch ≡ MAX_READERS_WAKEUP)

abbrev pub some_of : {A : Type 0} → List A → ℕ
some_of [] = 0
some_of (x ∷ xs) = 1

-- how many are marked
abbrev pub marks_sum : List ℕ → ℕ
marks_sum = total (λ n. n)

-- the mark of the first of these
abbrev pub first_mark : List ℕ → List ℕ → ℕ
first_mark marks [] = 0
first_mark marks (t ∷ ts) = slice_index marks t

abbrev pub tasks : List Waiter → List ℕ
tasks [] = []
tasks (w ∷ ws) = w.task ∷ tasks ws

abbrev pub own_mark : List ℕ → Option ℕ → ℕ
own_mark marks None = 0
own_mark marks (Some t) = slice_index marks t
