-- How a task becomes a reader and ceases to be one, who asks for a handoff, what becomes of a waker's batch, and what a step may do while HANDOFF is set and the first waiter is marked.
use Rattle.std.proofs.Common.{◌≡◌, ◌≢◌, ℕ, ◌+◌, ◌/◌, ◌%◌, ◌<◌, ◌⊎◌, List, [], ◌∷◌, ◌++◌, length, get_or, Some}
use mathlib.Core.Option.{some}
use lib.ListN.{get_elem?}
use Rattle.lock_core.specs.Totals.{total}
use Rattle.wait_list.specs.Lists.{first_code}
use Rattle.rwsem_count.specs.Counts.{BiasGoes}
use Rattle.rwsem_wake.specs.SemParts.{SemPart, named_weight, granting_weight, shared_of, granted_at, here, first_mark, IsWhole, tasks}
use Rattle.rwsem_wake.specs.GrantSemaphores.{IsFirst}
use Rattle.rwsem_wake.specs.GrantsStated.{Picks}
use Rattle.rwsem_wake.specs.Types.{Shared, Alone, Waiter, Transit, Reserve, Writes, Marking, Granting}

abbrev pub shared_at : ℕ → SemPart → ℕ
shared_at t v = named_weight t v.task (shared_of v)

abbrev pub granting_at : ℕ → SemPart → ℕ
granting_at t v = granting_weight v.sem.stage (here t v.sem.rest)

-- how often the task is a reader: by its hold, by its grant word, or in the rest of a batch
abbrev pub reads_as : List ℕ → ℕ → SemPart → ℕ
reads_as grants t v = shared_at t v + granted_at grants t v + granting_at t v

-- a bias that was added where HANDOFF was clear, or an exclusive hold
abbrev pub MayRead : SemPart → Type 0
MayRead v = ((m : ℕ) × (v.sem.bias ≡ Transit m) × (m / 4 % 2 ≡ 0)) ⊎ (v.held ≡ Alone)

-- the task is in the batch of a waker, which is a whole one
abbrev pub IsOfBatch : SemPart → List Waiter → ℕ → Type 0
IsOfBatch v q t = (0 < here t v.sem.rest) × IsWhole v.sem.rest q

-- a task becomes a reader by a step of its own pass, which has no batch under way, or by a waker's, in whose batch it is
abbrev pub ComesToRead : ℕ → List Waiter → List ℕ → List SemPart → List ℕ → List SemPart → Type 0
ComesToRead id q grants vs grants' us = (t : ℕ) → total (reads_as grants t) vs ≡ 0 → 0 < total (reads_as grants' t) us → (v : SemPart) × (get_elem? vs id ≡ some v)
    × (((v.task ≡ Some t) × (v.sem.rest ≡ [])) ⊎ IsOfBatch v q t)

-- a task is a reader until a step of its own pass ends its shared hold
abbrev pub EndsReading : ℕ → List ℕ → List SemPart → List ℕ → List SemPart → Type 0
EndsReading id grants vs grants' us = (t : ℕ) → 0 < total (reads_as grants t) vs → total (reads_as grants' t) us ≡ 0 → (v : SemPart) × (get_elem? vs id ≡ some v) × (v.task ≡ Some t)
    × (v.held ≡ Shared)

-- from this part to that a pass may set HANDOFF: a waker that has reserved a bias, where the first waiter is marked, or a writer of the list, which is to mark it next
abbrev pub MaySetHandoff : List Waiter → List ℕ → SemPart → SemPart → Type 0
MaySetHandoff q marks v u = ((m : ℕ) × (v.sem.bias ≡ Reserve m) × (first_mark marks (tasks q) ≡ 1)) ⊎ ((v.sem.wait ≡ Writes) × (u.sem.stage ≡ Marking))

-- a pass may mark a waiter: a waker whose reserved bias came under a writer, or a writer of the list that is to mark, while HANDOFF is set
abbrev pub MayMark : ℕ → SemPart → Type 0
MayMark n v = ((m : ℕ) × (v.sem.bias ≡ Reserve m) × (m % 2 ≡ 1)) ⊎ ((v.sem.wait ≡ Writes) × (v.sem.stage ≡ Marking) × (n / 4 % 2 ≡ 1))

-- HANDOFF and all marks stay as they are
abbrev pub Unasked : (n : ℕ) → List ℕ → (n' : ℕ) → List ℕ → Type 0
Unasked n marks n' marks' = (n' / 4 % 2 ≡ n / 4 % 2) × ((t : ℕ) → get_or marks' t 0 ≡ get_or marks t 0)

-- the parts of the pass of this number, before a step and after it
abbrev pub OfPass : ℕ → List SemPart → List SemPart → (SemPart → SemPart → Type 0) → Type 0
OfPass id vs us P = (v u : SemPart) → get_elem? vs id ≡ some v → get_elem? us id ≡ some u → P v u

-- a waker puts its batch, which isn't empty, into the count
abbrev pub CountsBatch : SemPart → SemPart → Type 0
CountsBatch v u = (0 < length v.sem.rest) × (v.sem.stage ≢ Granting) × (u.sem.stage ≡ Granting)

-- HANDOFF is answered: a writer takes, a waker puts its batch into the count, or nobody waits
abbrev pub AnswersHandoff : (id n : ℕ) → List Waiter → List SemPart → (n' : ℕ) → List SemPart → Type 0
AnswersHandoff id n q vs n' us = ((n % 2 ≡ 0) × (n' % 2 ≡ 1)) ⊎ ((v u : SemPart) × (get_elem? vs id ≡ some v) × (get_elem? us id ≡ some u) × CountsBatch v u) ⊎ (length q ≡ 0)

-- a pass may clear the mark of this task: that of the task, or a waker whose batch has it next
abbrev pub MayUnmark : SemPart → ℕ → Type 0
MayUnmark v t = (v.task ≡ Some t) ⊎ ((ts : List ℕ) × (v.sem.rest ≡ t ∷ ts))

-- a pass comes to be the one that is to mark by the step by which it sets HANDOFF
abbrev pub ComesToMark : (n n' : ℕ) → SemPart → SemPart → Type 0
ComesToMark n n' v u = u.sem.stage ≡ Marking → (v.sem.stage ≡ Marking) ⊎ ((n / 4 % 2 ≡ 0) × (n' / 4 % 2 ≡ 1))

-- a bias of a pass stays, goes, or is added, and then keeps the count that its addition found
abbrev pub KeepsFound : ℕ → SemPart → SemPart → Type 0
KeepsFound n v u = BiasGoes n v.sem.bias u.sem.bias

-- who is to mark the first waiter is so until a step of it after which that one is marked
abbrev pub MarksNext : List Waiter → List ℕ → SemPart → SemPart → Type 0
MarksNext q marks' v u = v.sem.stage ≡ Marking → (u.sem.stage ≡ Marking) ⊎ (first_mark marks' (tasks q) ≡ 1)

-- a grant word is cleared by a waker whose batch is in the count and has this task next
abbrev pub GrantsNext : ℕ → List ℕ → List SemPart → List ℕ → List SemPart → Type 0
GrantsNext id grants vs grants' us = (t : ℕ) → 0 < get_or grants t 0 → get_or grants' t 0 ≡ 0 → (v u : SemPart) × (get_elem? vs id ≡ some v) × (get_elem? us id ≡ some u) × (v.sem.stage ≡ Granting)
    × (v.sem.rest ≡ t ∷ u.sem.rest)

-- what of a batch isn't granted yet stays, or its next task is granted, or one more is picked behind it
abbrev pub BatchGoes : List Waiter → List ℕ → SemPart → SemPart → Type 0
BatchGoes q grants' v u = (u.sem.rest ≡ v.sem.rest) ⊎ ((t : ℕ) × (v.sem.stage ≡ Granting) × (v.sem.rest ≡ t ∷ u.sem.rest) × (get_or grants' t 0 ≡ 0))
    ⊎ ((t : ℕ) × (u.sem.rest ≡ v.sem.rest ++ t ∷ []) × Picks v q t)

-- While HANDOFF is set and the first waiter is marked, the writer bit is set by that waiter alone, and a task becomes a reader only by a bias whose addition saw no HANDOFF, or by a downgrade. Who
-- takes clears HANDOFF, and finds nobody counted. A bias keeps the count that its addition found.
-- At any time a task becomes a reader by itself, with no batch under way, or in a whole batch, and it is one until its own pass ends its shared hold.
-- HANDOFF is set by a waker with a reserved bias where the first waiter is marked, or by a writer of the list. That writer is to mark the first waiter from then on, until that one is marked, and no
-- other step makes a pass so. HANDOFF then stays until it is answered.
-- A mark is set by one of these, and is the first waiter's. It is cleared by its own waiter, or by a waker whose batch has it next.
-- A batch grows by the readers that its waker picks, and is granted in this order once it is in the count; no other step clears a grant word.
pub record KeepsHandoff (id n : ℕ) (q : List Waiter) (marks grants : List ℕ) (vs : List SemPart) (n' : ℕ) (marks' grants' : List ℕ) (us : List SemPart) : Type 0 where
  pub writer : n / 4 % 2 ≡ 1 → first_mark marks (tasks q) ≡ 1 → n % 2 ≡ 0 → n' % 2 ≡ 1 → (v : SemPart) × (get_elem? vs id ≡ some v) × IsFirst v.task q
  pub reader : n / 4 % 2 ≡ 1 → first_mark marks (tasks q) ≡ 1 → (t : ℕ) → total (reads_as grants t) vs ≡ 0 → 0 < total (reads_as grants' t) us → (v : SemPart) × (get_elem? vs id ≡ some v)
      × (v.task ≡ Some t) × MayRead v
  pub takes : n % 2 ≡ 0 → n' % 2 ≡ 1 → n' / 4 % 2 ≡ 0
  pub lone : n % 2 ≡ 0 → n' % 2 ≡ 1 → n / 256 ≡ 0
  pub comes : ComesToRead id q grants vs grants' us
  pub ends : EndsReading id grants vs grants' us
  pub asks : n / 4 % 2 ≡ 0 → n' / 4 % 2 ≡ 1 → (v u : SemPart) × (get_elem? vs id ≡ some v) × (get_elem? us id ≡ some u) × MaySetHandoff q marks v u
  pub stays : n / 4 % 2 ≡ 1 → (n' / 4 % 2 ≡ 1) ⊎ AnswersHandoff id n q vs n' us
  pub marked : (t : ℕ) → get_or marks t 0 ≡ 0 → 0 < get_or marks' t 0 → (first_code q ≡ t + 1) × ((v : SemPart) × (get_elem? vs id ≡ some v) × MayMark n v)
  pub unmarks : (t : ℕ) → 0 < get_or marks t 0 → get_or marks' t 0 ≡ 0 → (v : SemPart) × (get_elem? vs id ≡ some v) × MayUnmark v t
  pub marks_next : OfPass id vs us (MarksNext q marks')
  pub to_mark : OfPass id vs us (ComesToMark n n')
  pub found : OfPass id vs us (KeepsFound n)
  pub granted : GrantsNext id grants vs grants' us
  pub batch : OfPass id vs us (BatchGoes q grants')
