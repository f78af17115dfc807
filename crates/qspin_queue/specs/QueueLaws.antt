-- What the queue of every spin lock has: a head, and one pass for each link that is missing.
use Rattle.std.specs.Prelude.{◌≡◌, ◌≢◌, ◌<◌, ◌⊎◌, ℕ, List, [], map}
use mathlib.Core.Option.{some}
use lib.ListN.{get_elem?}
use Rattle.qspin_queue.specs.Types.{Moment, SpinHand}
use Rattle.lock_core.specs.declared.layout.TheConstants.{SPIN_WORDS}
use Rattle.lock_core.specs.Layout.{part}
use Rattle.lock_core.specs.LockHands.{frame_at}
use Rattle.lock_core.specs.Spins.{next_in, locked_in}
use Rattle.lock_core.specs.SpinQueues.{Before}
use Rattle.lock_core.specs.SpinStated.{AreSpinLocksThen, OwesLink, found_by}

-- a link between neighbours that is 0 is owed by exactly one pass
abbrev pub MissingLinksAreOwedOnce : Type 0
MissingLinksAreOwedOnce = (n first : ℕ) (m : Moment) (r : AreSpinLocksThen n first m) (l : ℕ) → l < n → (x y : ℕ) → Before (r.queues l) x y → next_in (part first SPIN_WORDS m.words) x ≡ 0
    → (j : ℕ) × (s : SpinHand) × (get_elem? m.spins j ≡ some s) × OwesLink x y (frame_at l s) × ((i : ℕ) (g : SpinHand) → get_elem? m.spins i ≡ some g → OwesLink x y (frame_at l g) → i ≡ j)

-- a queue that isn't empty has a head: its first, which found no tail or was told
abbrev pub QueueHasHead : Type 0
QueueHasHead = (n first : ℕ) (m : Moment) (r : AreSpinLocksThen n first m) (l : ℕ) → l < n → r.queues l ≢ [] → (x : ℕ) × (get_elem? (r.queues l) 0 ≡ some x)
    × ((found_by (map (frame_at l) m.spins) x ≡ 0) ⊎ (locked_in (part first SPIN_WORDS m.words) x ≡ 1))
