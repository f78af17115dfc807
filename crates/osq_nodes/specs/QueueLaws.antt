-- What every spin queue has: a head, and one task for each link that is missing.
use Rattle.std.specs.Prelude.{◌≡◌, ◌≢◌, ℕ, List, []}
use Rattle.lock_core.specs.NodeLists.{IsFirst, Precedes}
use Rattle.osq_nodes.specs.Words.{next_in, locked_in}
use Rattle.osq_nodes.specs.OsqPlaces.{IsHeadNode, Owes}
use Rattle.osq_nodes.specs.OsqStated.{IsSpinQueue, places_at, row_at}
use Rattle.osq_nodes.specs.Types.{Moment}

-- a link between neighbours that is 0 is owed by exactly one task
abbrev pub MissingLinksAreOwedOnce : Type 0
MissingLinksAreOwedOnce = (tasks : ℕ) (m : Moment) (r : IsSpinQueue tasks m) (x y : ℕ) → Precedes r.queue x y → next_in (row_at m) x ≡ 0 → (d : ℕ) × Owes d (places_at m d) x y
    × ((e : ℕ) → Owes e (places_at m e) x y → e ≡ d)

-- a queue that isn't empty has a head: its first, which found no tail or was told
abbrev pub QueueHasHead : Type 0
QueueHasHead = (tasks : ℕ) (m : Moment) (r : IsSpinQueue tasks m) → r.queue ≢ [] → (t : ℕ) × IsFirst r.queue t × IsHeadNode (places_at m t) (locked_in (row_at m) t)
