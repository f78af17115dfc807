-- What the words of a semaphore state of its passes at each moment, and whom a batch goes on with.
use Rattle.std.proofs.Common.{◌≡◌, ◌⊎◌, true, false, ℕ, zero, suc, ◌+◌, ◌*◌, ◌/◌, ◌%◌, ◌<◌, ◌≤◌, List, [], ◌∷◌, ◌++◌, length, get_or}
use Rattle.lock_core.specs.Totals.{total}
use Rattle.word_bits.specs.declared.TheConstants.{MAX_TASKS}
use Rattle.wait_list.specs.Lists.{first_code}
use Rattle.rwsem_wake.specs.SemParts.{SemPart, shared_of, alone_of, transit_of, reserve_of, granting_of, granted_of, busy_of, granted_at, reads_at, writes_at, rest_at, reader_at, writer_at}
use Rattle.rwsem_wake.specs.GrantSemaphores.{Quiet}
use Rattle.rwsem_wake.specs.Types.{Waiter, Removing}
use Rattle.rwsem_wake.specs.declared.batches.TheConstants.{MAX_READERS_WAKEUP}

-- readers: those that hold shared, those that are granted, and those in the rest of a batch that is in the count
abbrev pub readers : List ℕ → List SemPart → ℕ
readers grants vs = total shared_of vs + total (granted_of grants) vs + total granting_of vs

pub record StatesCount (n : ℕ) (q : List Waiter) (marks grants : List ℕ) (vs : List SemPart) : Type 0 where
  pub writer : n % 2 ≡ total alone_of vs
  pub alone : 0 < total alone_of vs → readers grants vs ≡ 0
  pub field : n / 256 ≡ readers grants vs + total transit_of vs + total reserve_of vs
  pub reserved : total reserve_of vs ≤ 1
  pub least : n ≤ 256 * (MAX_TASKS + 1) + 7
  pub low : n % 256 < 8
  -- while nobody changes flags, marks and list
  pub free : total busy_of vs ≡ 0 → Quiet (n / 2 % 2) (n / 4 % 2) q marks

-- a sum over the numbers below m
unfoldable pub over : (ℕ → ℕ) → ℕ → ℕ
over f zero = 0
over f (suc m) = over f m + f m

-- the list without one waiter, the others in order
pub record Without (q : List Waiter) (w : Waiter) (q' : List Waiter) : Type 0 where
  pub before : List Waiter
  pub behind : List Waiter
  pub was : q ≡ before ++ w ∷ behind
  pub is : q' ≡ before ++ behind

-- While the flags are quiet, only the first waiter may be marked, and then HANDOFF is set
pub record OnlyFirst (h : ℕ) (q : List Waiter) (marks : List ℕ) : Type 0 where
  pub handoff : (t : ℕ) → 0 < get_or marks t 0 → h ≡ 1
  pub first : (t : ℕ) → 0 < get_or marks t 0 → (w : Waiter) × (ws : List Waiter) × (q ≡ w ∷ ws) × (w.task ≡ t)

-- each task that waits stands in the list as what it waits as, in the rest of a batch, or is granted
pub record StatesWaiters (q : List Waiter) (grants : List ℕ) (vs : List SemPart) : Type 0 where
  pub as_reader : (t : ℕ) → total (reader_at t) q + total (rest_at t) vs + total (granted_at grants t) vs ≡ total (reads_at t) vs
  pub as_writer : (t : ℕ) → total (writer_at t) q ≡ total (writes_at t) vs

-- the first reader of a list is this task
abbrev pub IsFirstReader : ℕ → List Waiter → Type 0
IsFirstReader t [] = ⊥
IsFirstReader t (w ∷ ws) = ((w.writer ≡ false) × (w.task ≡ t)) ⊎ ((w.writer ≡ true) × IsFirstReader t ws)

-- a waker's batch begins or goes on with this task: it is the first reader of the list, the batch began with the first waiter, it has room, and isn't in the count yet
abbrev pub Picks : SemPart → List Waiter → ℕ → Type 0
Picks v q t = IsFirstReader t q × (v.sem.rest ≡ [] → first_code q ≡ t + 1) × (length v.sem.rest < MAX_READERS_WAKEUP) × ((v.sem.rest ≡ []) ⊎ (v.sem.stage ≡ Removing))
