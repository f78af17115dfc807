-- The batch of a wake: the first readers of a list.
use Rattle.std.specs.Prelude.{◌≡◌, ℕ, zero, suc, ◌⊎◌, Bool, true, false, List, [], ◌∷◌, map, filter, take, if◌then◌else◌}
use Rattle.rwsem_wake.specs.Types.{Waiter}

abbrev pub reads : Waiter → Bool
reads w = if w.writer then false else true

abbrev pub task_of : Waiter → ℕ
task_of w = w.task

abbrev pub starts_with_reader : List Waiter → Bool
starts_with_reader [] = false
starts_with_reader (w ∷ ws) = reads w

-- of a list with a reader first, its first readers in order, at most so many
abbrev pub batch_of : ℕ → List Waiter → List ℕ
batch_of limit ws = if starts_with_reader ws then take limit (map task_of (filter reads ws)) else []

-- the list without so many of its first readers
abbrev pub without_readers : ℕ → List Waiter → List Waiter
without_readers zero ws = ws
without_readers (suc n) [] = []
without_readers (suc n) (w ∷ ws) = if w.writer then w ∷ without_readers (suc n) ws else without_readers n ws

abbrev pub list_after : ℕ → List Waiter → List Waiter
list_after limit ws = if starts_with_reader ws then without_readers limit ws else ws

-- the batch and the list after it share out the list, each in its order
abbrev pub SharesOut : List Waiter → List ℕ → List Waiter → Type 0
SharesOut [] batch rest = (batch ≡ []) × (rest ≡ [])
SharesOut (w ∷ ws) batch rest = ((bs : List ℕ) × (batch ≡ w.task ∷ bs) × (w.writer ≡ false) × SharesOut ws bs rest) ⊎ ((rs : List Waiter) × (rest ≡ w ∷ rs) × SharesOut ws batch rs)
