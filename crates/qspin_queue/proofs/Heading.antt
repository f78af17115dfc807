-- A queue that isn't empty has a head, and one pass owes each link that is missing.
use Rattle.std.proofs.Common.{◌≡◌, ◌≢◌, ℕ, List, [], ◌∷◌, refl, sym, subst}
use mathlib.Core.Option.{some}
use lib.ListN.{get_elem?}
use Rattle.atomic_table.proofs.Lists.{at_map}
use Rattle.lock_core.specs.LockHands.{frame_at}
use Rattle.lock_core.specs.SpinStated.{OwesLink}
use Rattle.lock_core.specs.ViewParts.{at_unmap}
use Rattle.qspin_queue.specs.QueueLaws.{MissingLinksAreOwedOnce, QueueHasHead}
use Rattle.qspin_queue.specs.Types.{Frame}

some-first : (q : List ℕ) → q ≢ [] → (x : ℕ) × (get_elem? q 0 ≡ some x)
some-first [] some_it = absurd (some_it refl)
some-first (x ∷ q) some_it = (x, refl)

pub has-head : QueueHasHead
has-head n first m r l less some_it = let x = some-first (r.queues l) some_it in (x.0, x.1, (r.says l less).first x.0 x.1)

pub owed-once : MissingLinksAreOwedOnce
owed-once n first m r l less x y b none = let o = (r.says l less).owed x y b none in let s = at_unmap (frame_at l) m.spins o.0 o.1 o.2 in
    (o.0, s.0, s.1, subst (λ (f : Frame). OwesLink x y f) (sym s.2) o.3, λ i g at w. o.4 i (frame_at l g) (at_map (frame_at l) m.spins i g at) w)
