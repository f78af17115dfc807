-- Becoming the head, and handing the head on.
use Rattle.std.proofs.Common.{◌≡◌, ℕ, ◌+◌, ◌<◌, true, sym, ap, ◌∙◌, arith}
use Rattle.lock_core.specs.SpinFrames.{uses}
use Rattle.lock_core.specs.LockHands.{frame_at, depth_of}
use Rattle.lock_core.specs.SiteHandles.{view_of, IsDepthTold, IsNestTold, NotesLock}
use Rattle.qspin_word.specs.SpinWordHands.{at_point, went, took_at}
use Rattle.lock_core.specs.Nestings.{is_held, waits_at}
use Rattle.qspin_word.specs.Ways.{lock_hand_to}
use Rattle.qspin_word.specs.SpinWordHandles.{spin_in, lock_hand_of, point_in, SpinSteps, SpinWaits, SpinIdles, KeepsNodes}
use Rattle.qspin_queue.specs.SpinQueueHandles.{HasTop, SpinTakes, LeavesNode}
use Rattle.qspin_queue.specs.SpinQueueHands.{lock_hand_with, as_head, learning, learnt}
use Rattle.qspin_queue.specs.Types.{Pass, Site, View, LockHand, Linking, Waiting, Head, Ready, Passing, Holding}
use Rattle.qspin_word.proofs.Passing.{nodes-then}
use Rattle.qspin_word.proofs.Noting.{flags-eq, flags-beside, others-told, others-on, told-noted}
use Rattle.qspin_word.proofs.Idling.{idles-lock-hand}
use Rattle.qspin_queue.proofs.Queueing.{waits-framed, nodes-framed, framed-told, took-others, waits-on, top-on, took-lock-hand, took-depth, went-leaves, takes-after, takes-idle}

module _ {R O E C : Type 0} (site : Site R O E C) (l : ℕ) (quiet : Type 0) where
  -- what is so of quiet calls alone is so of any that are quiet
  pub takes-weak : (a d : Pass R O E C) → SpinTakes l (Unit {0}) site a d → SpinTakes l quiet site a d
  takes-weak a d s = let g = s.gained in record {
    own = s.own;
    face = s.face;
    goes_on = s.goes_on;
    last = s.last;
    gained = record { hand = g.hand; fronts = g.fronts; ext = g.ext; holds = g.holds; others = g.others; more = g.more; counted = λ _. g.counted tt; took = g.took };
    saw = λ _. s.saw tt;
    from = s.from;
    flags = s.flags;
  }

  pub idles-weak : (a d : Pass R O E C) → SpinIdles (Unit {0}) site a d → SpinIdles quiet site a d
  idles-weak a d s = record { own = s.own; face = s.face; goes_on = s.goes_on; told = s.told; flags = s.flags; leaves = s.leaves; still = λ _. s.still tt }

  pub waits-weak : (a d : Pass R O E C) (b : LockHand) → SpinWaits l (Unit {0}) site a d b → SpinWaits l quiet site a d b
  waits-weak a d b s = record { own = s.own; face = s.face; goes_on = s.goes_on; last = s.last; hand = s.hand; fronts = s.fronts; ext = s.ext; lock_hand = s.lock_hand; others = s.others; entries = s.entries; later = s.later; flags = s.flags; still = λ _. s.still tt }

  -- it tells its predecessor
  module _ (a m : Pass R O E C) (p : point_in l a ≡ Linking) (t : SpinSteps site a m (went l (spin_in a) Waiting)) where
    pub link-waits : SpinWaits l quiet site a m (lock_hand_to Waiting (lock_hand_of l a))
    link-waits = waits-framed site l quiet a m (at_point (frame_at l (spin_in a)) Waiting) t

    pub link-nodes : IsDepthTold a → KeepsNodes a m
    link-nodes told = nodes-framed site l quiet a m (at_point (frame_at l (spin_in a)) Waiting) (sym (ap uses p)) t told

    pub link-told : l < 8 → IsNestTold a → IsNestTold m
    link-told few told = framed-told site l quiet a m (at_point (frame_at l (spin_in a)) Waiting) few (sym (ap is_held p)) (sym (ap waits_at p)) (sym (ap uses p)) t told

    pub link-point : point_in l m ≡ Waiting
    link-point = ap (λ (b : LockHand). b.frame.point) link-waits.lock_hand

    pub link-code : (frame_at l (spin_in m)).code ≡ (frame_at l (spin_in a)).code
    link-code = ap (λ (b : LockHand). b.frame.code) link-waits.lock_hand

    -- waits, and looks for a successor
    module _ (d e : Pass R O E C) (n : ℕ) (w : SpinWaits l quiet site m d (lock_hand_with (as_head (frame_at l (spin_in m))) (lock_hand_of l m))) where
      pub waited-code : (frame_at l (spin_in d)).code ≡ (frame_at l (spin_in a)).code
      waited-code = ap (λ (b : LockHand). b.frame.code) w.lock_hand ∙ link-code

      waited-point : point_in l d ≡ Head
      waited-point = ap (λ (b : LockHand). b.frame.point) w.lock_hand

      pub become-waits : SpinSteps site d e (learnt l Head n (view_of d)) → SpinWaits l quiet site a e (lock_hand_with (learning Head n (frame_at l (spin_in a))) (lock_hand_of l a))
      become-waits s = waits-on site l quiet (λ b. lock_hand_with (learning Head n b.frame) b) a d e (lock_hand_with (as_head (at_point (frame_at l (spin_in a)) Waiting)) (lock_hand_to Waiting (lock_hand_of l a)))
          (waits-on site l quiet (λ b. lock_hand_with (as_head b.frame) b) a m d (lock_hand_to Waiting (lock_hand_of l a)) link-waits w)
          (waits-framed site l quiet d e (learning Head n (frame_at l (spin_in d))) s)

      pub become-told : l < 8 → IsNestTold d → SpinSteps site d e (learnt l Head n (view_of d)) → IsNestTold e
      become-told few told s = let q = waited-point in framed-told site l quiet d e (learning Head n (frame_at l (spin_in d))) few (sym (ap is_held q)) (sym (ap waits_at q)) (sym (ap uses q)) s told

      pub become-nodes : IsDepthTold a → KeepsNodes m d → SpinSteps site d e (learnt l Head n (view_of d)) → KeepsNodes a e
      become-nodes told k s = let r = nodes-then site a m d (link-nodes told) k in nodes-then site a d e r (nodes-framed site l quiet d e (learning Head n (frame_at l (spin_in d))) (sym (ap uses waited-point)) s r.told)

  -- it has taken the lock as the head
  module _ (a d : Pass R O E C) (p : point_in l a ≡ Ready) (t : SpinSteps site a d (took_at l (spin_in a) ((view_of a).steps + 1) Passing)) where
    pub set-point : point_in l d ≡ Passing
    set-point = ap (λ (b : LockHand). b.frame.point) (took-lock-hand site l quiet a d Passing t)

    pub set-next : (frame_at l (spin_in d)).next ≡ (frame_at l (spin_in a)).next
    set-next = ap (λ (b : LockHand). b.frame.next) (took-lock-hand site l quiet a d Passing t)

    pub set-code : (frame_at l (spin_in d)).code ≡ (frame_at l (spin_in a)).code
    set-code = ap (λ (b : LockHand). b.frame.code) (took-lock-hand site l quiet a d Passing t)

    set-depth : depth_of (spin_in d) ≡ depth_of (spin_in a)
    set-depth = took-depth site l quiet a d Passing t (sym (ap uses p))

    pub set-told : IsDepthTold a → IsDepthTold d
    set-told told = ap (λ n. n.depth) t.nest ∙ (told ∙ sym set-depth)

    -- and notes it
    pub set-noted : (d' : Pass R O E C) → NotesLock l true true d d' → IsNestTold a → IsNestTold d'
    set-noted d' noted told = told-noted l d d' true true noted (set-told told.depth) (others-on l a d (flags-beside l a.nest d.nest (flags-eq a.nest d.nest t.nest)) (λ m apart. (took-others site l quiet a d Passing t m apart).point) (others-told l a told)) (ap is_held set-point) (ap waits_at set-point)

    pub set-top : HasTop l a → HasTop l d
    set-top top = top-on site l quiet a d (ap (λ (x : View E). x.hand) t.kept) set-depth set-code top

    pub set-leaves : (z : Pass R O E C) → SpinSteps site d z (went l (spin_in d) Holding) → LeavesNode a z
    set-leaves z s = let x = went-leaves site l quiet d z (ap uses set-point) s in let y = set-depth in omega (arith, x, y)

    -- and waited for its successor
    module _ (e : Pass R O E C) (n : ℕ) (w : SpinWaits l quiet site d e (lock_hand_with (learning Passing n (frame_at l (spin_in d))) (lock_hand_of l d))) (k : KeepsNodes d e) where
      pub late-top : HasTop l a → HasTop l e
      late-top top = top-on site l quiet d e w.hand k.same (ap (λ (b : LockHand). b.frame.code) w.lock_hand) (set-top top)

      pub late-leaves : (z : Pass R O E C) → SpinSteps site e z (went l (spin_in e) Holding) → LeavesNode a z
      late-leaves z s = let x = went-leaves site l quiet e z (ap uses (ap (λ (b : LockHand). b.frame.point) w.lock_hand)) s in let y = set-depth in let u = k.same in omega (arith, x, y, u)

  -- the head has seen the lock free, and the exchange of the last missed, or wasn't made
  module _ (a d m : Pass R O E C) (w : SpinWaits l quiet site a d (lock_hand_to Ready (lock_hand_of l a))) (k : KeepsNodes a d) where
    pub ready-top : HasTop l a → HasTop l d
    ready-top top = top-on site l quiet a d w.hand k.same (ap (λ (b : LockHand). b.frame.code) w.lock_hand) top

    module _ (idle : SpinIdles (Unit {0}) site d m) where
      stays : lock_hand_of l m ≡ lock_hand_to Ready (lock_hand_of l a)
      stays = idles-lock-hand (Unit {0}) site l d m idle (ap (λ (b : LockHand). waits_at b.frame.point) w.lock_hand) ∙ w.lock_hand

      pub missed-point : point_in l m ≡ Ready
      missed-point = ap (λ (b : LockHand). b.frame.point) stays

      pub missed-next : (frame_at l (spin_in m)).next ≡ (frame_at l (spin_in a)).next
      missed-next = ap (λ (b : LockHand). b.frame.next) stays

      pub missed-code : (frame_at l (spin_in m)).code ≡ (frame_at l (spin_in a)).code
      missed-code = ap (λ (b : LockHand). b.frame.code) stays

      pub missed-top : HasTop l a → HasTop l m
      missed-top top = top-on site l quiet d m idle.leaves.hand idle.leaves.depth (missed-code ∙ sym (ap (λ (b : LockHand). b.frame.code) w.lock_hand)) (ready-top top)

      pub missed-takes : (e : Pass R O E C) → SpinTakes l quiet site m e → SpinTakes l quiet site a e
      missed-takes e s = takes-after site l quiet a d e (lock_hand_to Ready (lock_hand_of l a)) w (takes-idle site l quiet d m e (idles-weak d m idle) s (ap (λ (b : LockHand). waits_at b.frame.point) w.lock_hand))

      pub missed-leaves : (e : Pass R O E C) → LeavesNode m e → LeavesNode a e
      missed-leaves e s = let x = idle.leaves.depth in let y = k.same in omega (arith, s, x, y)
