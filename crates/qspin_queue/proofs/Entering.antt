-- The node that a call uses, the try without one, and the lock as a whole.
use Rattle.std.proofs.Common.{◌≡◌, ◌≢◌, ℕ, ◌+◌, ◌==◌, ◌⊎◌, ⊎_elim, Bool, true, false, Option, refl, sym, ap, ◌∙◌, subst, arith, eq-eqb, ne_eqb, if◌then◌else◌}
use mathlib.Core.Logic.{dite}
use native.Mathlib.Decide.{ℕ_discrete}
use Rattle.lock_core.specs.SpinFrames.{uses}
use Rattle.lock_core.specs.Records.{bit}
use Rattle.lock_core.specs.Spins.{node_code, spun}
use Rattle.lock_core.specs.LockHands.{lock_hand_at, frame_at, depth_of, RestsAt, depth-with}
use Rattle.lock_core.specs.SiteHandles.{view_of, hand_in, IsDepthTold, IsNestTold, KeepsNest, NotesDepth, NotesLock}
use Rattle.qspin_word.specs.SpinWordHands.{at_point, taken, took_at, saw_word, tried, sought, grabbed}
use Rattle.lock_core.specs.Nestings.{is_held, waits_at, SameFlagsBeside}
use Rattle.qspin_word.specs.Ways.{lock_hand_to, AreAlike}
use Rattle.qspin_word.specs.SpinWordHandles.{spin_in, lock_hand_of, point_in, SpinSteps, SpinWaits, SpinIdles, KeepsNodes}
use Rattle.qspin_queue.specs.SpinQueueHandles.{IsNextNode, HasTop, SpinTakes, EntersNode}
use Rattle.qspin_queue.specs.SpinQueueHands.{lock_hand_with, node_at, code_for, cleared_locked, cleared_next}
use Rattle.qspin_queue.specs.Types.{Pass, Site, Nesting, View, LockHand, Frame, SpinHand, Point, Out, Taking, Trying, Clearing, Cleared, Holding}
use Rattle.qspin_word.proofs.OwnNodes.{same-depth}
use Rattle.qspin_word.proofs.Noting.{noted-is, flags-eq, flags-beside, beside-then, others-told, others-on, told-noted, told-points}
use Rattle.qspin_word.proofs.Idling.{alike-same, alike-then}
use Rattle.qspin_word.proofs.Passing.{steps-as, nodes-step, nodes-then}
use Rattle.qspin_queue.proofs.Queueing.{waits-framed, nodes-framed, waits-on, takes-once, takes-after, takes-idle, took-lock-hand, took-from}
use Rattle.qspin_queue.proofs.HeadSteps.{takes-weak, idles-weak, waits-weak}

module _ {R O E C : Type 0} (site : Site R O E C) (l : ℕ) (quiet : Type 0) where
  -- a pass that notes how many nodes it uses
  deep-is : (d d' : Pass R O E C) (n : ℕ) → NotesDepth n d d' → d' ≡ record d { nest = d'.nest }
  deep-is d d' n r = λ i. record { seat = r.seat i; face = r.face i; nest = d'.nest }

  takes-nest : (a d : Pass R O E C) (n : Nesting) → SameFlagsBeside l a.nest n → SpinTakes l quiet site a d → SpinTakes l quiet site a (record d { nest = n })
  takes-nest a d n f s = record { own = s.own; face = s.face; goes_on = s.goes_on; last = s.last; gained = s.gained; saw = s.saw; from = s.from; flags = f }

  pub takes-deep : (a d d' : Pass R O E C) (n : ℕ) → NotesDepth n d d' → SpinTakes l quiet site a d → SpinTakes l quiet site a d'
  takes-deep a d d' n r s = subst (SpinTakes l quiet site a) (sym (deep-is d d' n r)) (takes-nest a d d'.nest (beside-then l a.nest d.nest d'.nest s.flags (flags-beside l d.nest d'.nest r.flags)) s)

  waits-nest : (a d : Pass R O E C) (n : Nesting) (b : LockHand) → SameFlagsBeside l a.nest n → SpinWaits l quiet site a d b → SpinWaits l quiet site a (record d { nest = n }) b
  waits-nest a d n b f s = record { own = s.own; face = s.face; goes_on = s.goes_on; last = s.last; hand = s.hand; fronts = s.fronts; ext = s.ext; lock_hand = s.lock_hand; others = s.others; entries = s.entries; later = s.later; flags = f; still = s.still }

  waits-deep : (a d d' : Pass R O E C) (n : ℕ) (b : LockHand) → NotesDepth n d d' → SpinWaits l quiet site a d b → SpinWaits l quiet site a d' b
  waits-deep a d d' n b r s = subst (λ (z : Pass R O E C). SpinWaits l quiet site a z b) (sym (deep-is d d' n r)) (waits-nest a d d'.nest b (beside-then l a.nest d.nest d'.nest s.flags (flags-beside l d.nest d'.nest r.flags)) s)

  -- or how it stands with the lock
  waits-flagged : (a d d' : Pass R O E C) (h w : Bool) (b : LockHand) → NotesLock l h w d d' → SpinWaits l quiet site a d b → SpinWaits l quiet site a d' b
  waits-flagged a d d' h w b r s = subst (λ (z : Pass R O E C). SpinWaits l quiet site a z b) (sym (noted-is l d d' h w r)) (waits-nest a d d'.nest b (beside-then l a.nest d.nest d'.nest s.flags r.flags) s)

  -- it takes the lock after a note
  pub takes-flagged : (b b' d : Pass R O E C) (h w : Bool) → NotesLock l h w b b' → SpinTakes l quiet site b' d → SpinTakes l quiet site b d
  takes-flagged b b' d h w n t = let s : SpinTakes l quiet site (record b { nest = b'.nest }) d = subst (λ (z : Pass R O E C). SpinTakes l quiet site z d) (noted-is l b b' h w n) t in record {
    own = s.own;
    face = s.face;
    goes_on = s.goes_on;
    last = s.last;
    gained = s.gained;
    saw = s.saw;
    from = s.from;
    flags = beside-then l b.nest b'.nest d.nest n.flags t.flags;
  }

  -- it clears its next node
  module _ (a m : Pass R O E C) (code : ℕ) (out : RestsAt l (spin_in a)) (node : IsNextNode site a code) (t : SpinSteps site a m (cleared_locked l (view_of a))) where
    is_code : code_for (hand_in a).task (depth_of (spin_in a)) ≡ code
    is_code = ap (λ (o : Option ℕ). code_for o (depth_of (spin_in a))) node.named ∙ (ap (node_code node.task) (sym node.depth) ∙ sym node.is)

    first : SpinWaits l quiet site a m (lock_hand_with (node_at Clearing code) (lock_hand_of l a))
    first = subst (λ (z : ℕ). SpinWaits l quiet site a m (lock_hand_with (node_at Clearing z) (lock_hand_of l a))) is_code (waits-framed site l quiet a m (node_at Clearing (code_for (hand_in a).task (depth_of (spin_in a)))) t)

    pub cleared-point : point_in l m ≡ Clearing
    cleared-point = ap (λ (b : LockHand). b.frame.point) first.lock_hand

    pub cleared-code : (frame_at l (spin_in m)).code ≡ code
    cleared-code = ap (λ (b : LockHand). b.frame.code) first.lock_hand

    module _ (d : Pass R O E C) (s : SpinSteps site m d (cleared_next l (view_of m))) where
      clear-all : SpinWaits l quiet site a d (lock_hand_with (node_at Cleared code) (lock_hand_of l a))
      clear-all = waits-on site l quiet (lock_hand_to Cleared) a m d (lock_hand_with (node_at Clearing code) (lock_hand_of l a)) first (waits-framed site l quiet m d (at_point (frame_at l (spin_in m)) Cleared) s)

      deeper : depth_of (spin_in d) ≡ depth_of (spin_in a) + 1
      deeper = let e = ap (λ (x : View E). depth_of x.spin) t.kept in let g : Frame = node_at Clearing (code_for (hand_in a).task (depth_of (spin_in a))) in let x = depth-with l (spin_in a) (lock_hand_with g (lock_hand_of l a)) in let y : bit (uses (point_in l a)) ≡ 0 = ap (λ (p : Point). bit (uses p)) out in
          let f = ap (λ (x : View E). depth_of x.spin) s.kept ∙ same-depth l (spin_in m) (lock_hand_to Cleared (lock_hand_of l m)) (sym (ap uses cleared-point)) in omega (arith, e, x, y, f)

      module _ (d' e : Pass R O E C) (depth : ℕ) (was : depth ≡ depth_of (spin_in a)) (r : NotesDepth (depth + 1) d d') (f : NotesLock l false true d' e) where
        clear-deep : SpinWaits l quiet site a d' (lock_hand_with (node_at Cleared code) (lock_hand_of l a))
        clear-deep = waits-deep a d d' (depth + 1) (lock_hand_with (node_at Cleared code) (lock_hand_of l a)) r clear-all

        pub clear-waits : SpinWaits l quiet site a e (lock_hand_with (node_at Cleared code) (lock_hand_of l a))
        clear-waits = waits-flagged a d' e false true (lock_hand_with (node_at Cleared code) (lock_hand_of l a)) f clear-deep

        deep : depth_of (spin_in d') ≡ depth_of (spin_in a) + 1
        deep = ap (λ (z : Pass R O E C). depth_of (spin_in z)) (deep-is d d' (depth + 1) r) ∙ deeper

        depth-told : IsDepthTold d'
        depth-told = r.depth_noted ∙ (ap (λ (z : ℕ). z + 1) was ∙ sym deep)

        at-end : depth_of (spin_in e) ≡ depth_of (spin_in a) + 1
        at-end = ap (λ (z : Pass R O E C). depth_of (spin_in z)) (noted-is l d' e false true f) ∙ deep

        cleared : point_in l d' ≡ Cleared
        cleared = ap (λ (b : LockHand). b.frame.point) clear-deep.lock_hand

        pub clear-told : IsNestTold a → IsNestTold e
        clear-told told = told-noted l d' e false true f depth-told (others-on l a d' clear-deep.flags (λ m apart. (clear-deep.others m apart).point) (others-told l a told)) (ap is_held cleared) (ap waits_at cleared)

        pub clear-enters : IsNestTold a → EntersNode a e
        clear-enters told = record { told = (clear-told told).depth; deeper = at-end }

        pub clear-top : HasTop l e
        clear-top = record { task = node.task; index = node.index; named = ap (λ h. h.task) clear-waits.hand ∙ node.named; last = ap (λ (z : ℕ). z + 1) node.depth ∙ sym at-end; is = ap (λ (b : LockHand). b.frame.code) clear-waits.lock_hand ∙ node.is }

        pub clear-quick : (view_of e).steps ≡ (view_of a).steps + 2
        clear-quick = let x = ap (λ (z : Pass R O E C). (view_of z).steps) (noted-is l d' e false true f) in let y = ap (λ (z : Pass R O E C). (view_of z).steps) (deep-is d d' (depth + 1) r) in let u = ap (λ (z : View E). z.steps) s.kept in let v = ap (λ (z : View E). z.steps) t.kept in omega (arith, x, y, u, v)

  -- a try that took the lock, or the queue behind a miss
  pub with-tried : (a m t t' : Pass R O E C) (n : ℕ) (b : LockHand) → SpinWaits l (Unit {0}) site a m b → SpinTakes l (Unit {0}) site m t → NotesDepth n t t' → SpinTakes l quiet site a t'
  with-tried a m t t' n b w s r = takes-deep a t t' n r (takes-after site l quiet a m t b (waits-weak site l quiet a m b w) (takes-weak site l quiet m t s))

  pub with-queued : (a m t u u' : Pass R O E C) (n : ℕ) (b : LockHand) → SpinWaits l (Unit {0}) site a m b → waits_at b.frame.point ≡ true → SpinIdles (Unit {0}) site m t → SpinTakes l quiet site t u → NotesDepth n u u' → SpinTakes l quiet site a u'
  with-queued a m t u u' n b w still idle s r = takes-deep a u u' n r (takes-after site l quiet a m u b (waits-weak site l quiet a m b w) (takes-idle site l quiet m t u (idles-weak site l quiet m t idle) s (ap (λ (x : LockHand). waits_at x.frame.point) w.lock_hand ∙ still)))

  -- it waits without a node
  unused-at : (p : Point) → (p ≡ Out) ⊎ (p ≡ Trying) → uses p ≡ false
  unused-at p which = ⊎_elim (λ e. ap uses e) (λ e. ap uses e) which

  module _ (a m : Pass R O E C) (which : (point_in l a ≡ Out) ⊎ (point_in l a ≡ Trying)) (t : SpinSteps site a m (sought l (view_of a))) where
    pub seek-waits : SpinWaits l quiet site a m (lock_hand_to Trying (lock_hand_of l a))
    seek-waits = waits-framed site l quiet a m (at_point (frame_at l (spin_in a)) Trying) t

    pub seek-nodes : IsDepthTold a → KeepsNodes a m
    seek-nodes told = nodes-framed site l quiet a m (at_point (frame_at l (spin_in a)) Trying) (sym (unused-at (point_in l a) which)) t told

    pub seek-nest : m.nest ≡ a.nest
    seek-nest = t.nest

    pub seek-point : point_in l m ≡ Trying
    seek-point = ap (λ (b : LockHand). b.frame.point) seek-waits.lock_hand

    module _ (d : Pass R O E C) (n : ℕ) (s : SpinSteps site m d (grabbed l n (view_of m))) where
      pub grab-takes : n ≡ 0 → SpinTakes l quiet site a d
      grab-takes free = takes-after site l quiet a m d (lock_hand_to Trying (lock_hand_of l a)) seek-waits
          (takes-once site l quiet m d (steps-as site m d (grabbed l n (view_of m)) (took_at l (spin_in m) ((view_of m).steps + 1) Holding) (ap (λ (b : Bool). if b then took_at l (spin_in m) ((view_of m).steps + 1) Holding else spin_in m) (eq-eqb n 0 free)) s) (λ e. let no : Trying ≡ Taking = sym seek-point ∙ e in absurd cc))

      pub grab-from : n ≡ 0 → (lock_hand_of l d).from ≡ Trying
      grab-from free = took-from site l quiet m d Holding (steps-as site m d (grabbed l n (view_of m)) (took_at l (spin_in m) ((view_of m).steps + 1) Holding) (ap (λ (b : Bool). if b then took_at l (spin_in m) ((view_of m).steps + 1) Holding else spin_in m) (eq-eqb n 0 free)) s) Trying seek-point

      pub grab-missed : n ≢ 0 → SpinWaits l quiet site a d (lock_hand_to Trying (lock_hand_of l a))
      grab-missed not = let w = seek-waits in let e = s.kept ∙ ap (λ (x : SpinHand). spun (view_of m) x) (ap (λ (b : Bool). if b then took_at l (spin_in m) ((view_of m).steps + 1) Holding else spin_in m) (ne_eqb n 0 not)) in record {
        own = s.own;
        face = s.face ∙ w.face;
        goes_on = λ p h. s.goes_on p (w.goes_on p h);
        last = s.last;
        hand = ap (λ (x : View E). x.hand) e ∙ w.hand;
        fronts = ap (λ (x : View E). x.fronts) e ∙ w.fronts;
        ext = ap (λ (x : View E). x.ext) e ∙ w.ext;
        lock_hand = ap (λ (x : View E). lock_hand_at l x.spin) e ∙ w.lock_hand;
        others = λ o apart. alike-then (lock_hand_of o a) (lock_hand_of o m) (lock_hand_of o d) (w.others o apart) (alike-same (lock_hand_of o m) (lock_hand_of o d) (ap (λ (x : View E). lock_hand_at o x.spin) e));
        entries = let x = ap (λ (x : View E). x.spin.entries) e in let y = w.entries in omega (arith, x, y);
        later = let x = ap (λ (x : View E). x.steps) e in let y = w.later in omega (arith, x, y);
        flags = beside-then l a.nest m.nest d.nest w.flags (flags-beside l m.nest d.nest (flags-eq m.nest d.nest s.nest));
        still = λ q. let y = w.still q in (ap (λ (x : View E). x.spin.saw) e ∙ y.0, ap (λ (x : View E). x.spin.entries) e ∙ y.1);
      }

      grab-depth : (b : Bool) → depth_of (if b then took_at l (spin_in m) ((view_of m).steps + 1) Holding else spin_in m) ≡ depth_of (spin_in m)
      grab-depth true = same-depth l (spin_in m) (taken l (spin_in m) ((view_of m).steps + 1) Holding) (sym (ap uses seek-point))
      grab-depth false = refl

      pub grab-nodes : IsDepthTold a → KeepsNodes a d
      grab-nodes told = let k = seek-nodes told in nodes-then site a m d k (nodes-step site m d (grabbed l n (view_of m)) s (grab-depth (n == 0)) k.told)

  -- a turn in which it missed
  pub trying-idles : (d e : Pass R O E C) → point_in l d ≡ Trying → IsNestTold d → KeepsNest d e → SpinWaits l (Unit {0}) site d e (lock_hand_to Trying (lock_hand_of l d)) → KeepsNodes d e → SpinIdles quiet site d e
  trying-idles d e p told nest w k = let alike : (m : ℕ) → AreAlike (lock_hand_of m d) (lock_hand_of m e) = λ m. dite (ℕ_discrete m l)
      (λ same. subst (λ (r : ℕ). AreAlike (lock_hand_of r d) (lock_hand_of r e)) (sym same) (alike-same (lock_hand_of l d) (lock_hand_of l e) (w.lock_hand ∙ ap (λ (z : Point). lock_hand_to z (lock_hand_of l d)) (sym p))))
      (λ apart. w.others m apart) in record {
        own = w.own;
        face = w.face;
        goes_on = w.goes_on;
        told = told-points d e (flags-eq d.nest e.nest nest) (λ m. (alike m).point) k.told told;
        flags = flags-eq d.nest e.nest nest;
        leaves = record {
          hand = w.hand;
          fronts = w.fronts;
          ext = w.ext;
          alike = alike;
          depth = k.same;
          entries = w.entries;
          later = let x = w.later in omega arith;
        };
        still = λ _. w.still tt;
      }

  -- the first step takes the lock
  module _ (a d : Pass R O E C) (out : RestsAt l (spin_in a)) (n : ℕ) (t : SpinSteps site a d (tried l n (view_of a))) (free : n ≡ 0) where
    took : SpinSteps site a d (took_at l (spin_in a) ((view_of a).steps + 1) Holding)
    took = steps-as site a d (tried l n (view_of a)) (took_at l (spin_in a) ((view_of a).steps + 1) Holding) (ap (λ (b : Bool). if b then took_at l (spin_in a) ((view_of a).steps + 1) Holding else saw_word (spin_in a) n ((view_of a).steps + 1)) (eq-eqb n 0 free)) t

    pub fast-takes : SpinTakes l quiet site a d
    fast-takes = takes-once site l quiet a d took (λ e. let no : Out ≡ Taking = sym out ∙ e in absurd cc)

    pub fast-nodes : IsDepthTold a → KeepsNodes a d
    fast-nodes told = nodes-step site a d (took_at l (spin_in a) ((view_of a).steps + 1) Holding) took (same-depth l (spin_in a) (taken l (spin_in a) ((view_of a).steps + 1) Holding) (sym (ap uses out))) told

    pub fast-depth : depth_of (spin_in d) ≡ depth_of (spin_in a)
    fast-depth = ap (λ (x : View E). depth_of x.spin) took.kept ∙ same-depth l (spin_in a) (taken l (spin_in a) ((view_of a).steps + 1) Holding) (sym (ap uses out))

    pub fast-took : (lock_hand_of l d).took ≡ (view_of a).steps + 1
    fast-took = ap (λ (b : LockHand). b.took) (took-lock-hand site l quiet a d Holding took)

    pub fast-from : (lock_hand_of l d).from ≡ Taking → ⊥
    fast-from e = let no : Out ≡ Taking = sym out ∙ (sym (ap (λ (b : LockHand). b.from) (took-lock-hand site l quiet a d Holding took)) ∙ e) in cc
