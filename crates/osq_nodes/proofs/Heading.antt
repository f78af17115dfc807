-- A queue that isn't empty has a head.
use Rattle.std.proofs.Common.{◌≢◌, ℕ, List, [], ◌∷◌, refl}
use Rattle.lock_core.specs.NodeLists.{IsFirst}
use Rattle.osq_nodes.specs.QueueLaws.{QueueHasHead}

some-first : (q : List ℕ) → q ≢ [] → (t : ℕ) × IsFirst q t
some-first [] some_it = absurd (some_it refl)
some-first (x ∷ q) some_it = (x, refl)

pub has-head : QueueHasHead
has-head tasks m r some_it = let t = some-first r.queue some_it in (t.0, t.1, r.first t.0 t.1)
