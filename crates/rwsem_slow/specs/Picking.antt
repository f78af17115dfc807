-- Whom a waker has picked that removes one waiter after another.
use Rattle.std.specs.Prelude.{◌≡◌, ℕ, ◌+◌, ◌<◌, ◌≤◌, List, [], ◌∷◌, ◌++◌, length}
use Rattle.rwsem_slow.specs.Types.{Waiter}
use Rattle.wait_list.specs.Lists.{IsList, first_code, without}
use Rattle.rwsem_wake.specs.Batches.{batch_of}
use Rattle.rwsem_wake.specs.SemParts.{IsWhole}
use Rattle.rwsem_wake.specs.GrantsStated.{IsFirstReader}
use Rattle.rwsem_wake.specs.Removals.{AreHeads, BeginsWith, without_all}
use Rattle.rwsem_wake.specs.declared.batches.TheConstants.{MAX_READERS_WAKEUP}

-- where each is the first reader of the list that is left, they are the first readers of the list that the waker began with, which is left without them
abbrev pub PicksFirstReaders : Type 0
PicksFirstReaders = (q : List Waiter) (batch : List ℕ) (t : ℕ) → IsList q → AreHeads batch q → IsFirstReader t (without_all batch q) → AreHeads (batch ++ t ∷ []) q
    × (without_all (batch ++ t ∷ []) q ≡ without t (without_all batch q))

-- once they are a whole batch, which begins with the first waiter of that list, they are the batch of that list
abbrev pub PicksWholeBatch : Type 0
PicksWholeBatch = (q : List Waiter) (batch : List ℕ) → IsList q → 0 < length batch → length batch ≤ MAX_READERS_WAKEUP → AreHeads batch q → BeginsWith batch q → IsWhole batch (without_all batch q)
    → batch ≡ batch_of MAX_READERS_WAKEUP q

-- a waker that has picked these so far picks this task next, as `Picks` says: it is the first reader of the list that is left, the first of a batch is the first waiter too, and there is room
abbrev pub IsNextPick : (begun : List ℕ) → List Waiter → ℕ → Type 0
IsNextPick begun q t = IsFirstReader t q × (begun ≡ [] → first_code q ≡ t + 1) × (length begun < MAX_READERS_WAKEUP)

-- it picks these one after another, and removes each, while nobody else changes the list, which is then this one
abbrev pub PicksInTurn : (begun : List ℕ) → List Waiter → (picked : List ℕ) → List Waiter → Type 0
PicksInTurn begun q [] q' = q' ≡ q
PicksInTurn begun q (t ∷ ts) q' = IsNextPick begun q t × PicksInTurn (begun ++ t ∷ []) (without t q) ts q'

-- what it has picked from its first pick on is the batch of the list at that pick, once it is a whole one, and the list that is left is that list without it
abbrev pub PicksBatchInTurn : Type 0
PicksBatchInTurn = (q q' : List Waiter) (batch : List ℕ) → IsList q → PicksInTurn [] q batch q' → 0 < length batch → IsWhole batch q' → (batch ≡ batch_of MAX_READERS_WAKEUP q)
    × (q' ≡ without_all batch q)
