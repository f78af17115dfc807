-- The slow path, step by step.
use Rattle.std.proofs.Common.{◌≡◌, ◌≢◌, ℕ, ◌+◌, ◌<◌, true, false, refl, sym, ap, ◌∙◌, subst, arith}
use Rattle.lock_core.specs.Records.{bit}
use Rattle.lock_core.specs.SpinFrames.{uses}
use Rattle.lock_core.specs.LockHands.{lock_hand_at, frame_at, depth_of, at-with, at-else, depth-with}
use Rattle.lock_core.specs.SiteHandles.{view_of, hand_in, IsDepthTold, IsNestTold}
use Rattle.qspin_word.specs.SpinWordHands.{at_point, framed, went, taken, took_at}
use Rattle.lock_core.specs.Nestings.{is_held, waits_at}
use Rattle.qspin_word.specs.Ways.{lock_hand_to, AreAlike}
use Rattle.qspin_word.specs.SpinWordHandles.{spin_in, lock_hand_of, point_in, SpinSteps, SpinWaits, SpinIdles, KeepsNodes}
use Rattle.qspin_queue.specs.SpinQueueHandles.{HasTop, SpinTakes, LeavesNode}
use Rattle.qspin_queue.specs.SpinQueueHands.{lock_hand_with}
use Rattle.qspin_queue.specs.Types.{Pass, Site, View, LockHand, Frame, Point, Taking, Ready, Passing, Holding}
use Rattle.qspin_word.proofs.OwnNodes.{same-depth}
use Rattle.qspin_word.proofs.Noting.{flags-eq, flags-then, flags-beside, beside-then, told-on}
use Rattle.qspin_word.proofs.Idling.{alike-then, alike-same, waits-once, waits-after, waits-then, idles-lock-hand}
use Rattle.qspin_word.proofs.Passing.{nodes-step, nodes-then, nodes-idle}

module _ {R O E C : Type 0} (site : Site R O E C) (l : ℕ) (quiet : Type 0) where
  -- one step that leaves another frame
  pub waits-framed : (a d : Pass R O E C) (g : Frame) → SpinSteps site a d (framed l (spin_in a) g) → SpinWaits l quiet site a d (lock_hand_with g (lock_hand_of l a))
  waits-framed a d g t = let b : LockHand = lock_hand_with g (lock_hand_of l a) in waits-once quiet site l a d (framed l (spin_in a) g) b t (at-with l (spin_in a) b) (λ m apart. at-else l m (spin_in a) b apart) refl refl

  pub nodes-framed : (a d : Pass R O E C) (g : Frame) → uses g.point ≡ uses (point_in l a) → SpinSteps site a d (framed l (spin_in a) g) → IsDepthTold a → KeepsNodes a d
  nodes-framed a d g same t told = nodes-step site a d (framed l (spin_in a) g) t (same-depth l (spin_in a) (lock_hand_with g (lock_hand_of l a)) same) told

  -- it neither comes to wait for the lock nor to hold it
  pub framed-told : (a d : Pass R O E C) (g : Frame) → l < 8 → is_held g.point ≡ is_held (point_in l a) → waits_at g.point ≡ waits_at (point_in l a) → uses g.point ≡ uses (point_in l a) → SpinSteps site a d (framed l (spin_in a) g) → IsNestTold a → IsNestTold d
  framed-told a d g few held waits same t told = let w = waits-framed a d g t in let p = ap (λ (b : LockHand). b.frame.point) w.lock_hand in
      told-on l a d few (flags-eq a.nest d.nest t.nest) (λ m apart. (w.others m apart).point) (ap is_held p ∙ held) (ap waits_at p ∙ waits) (nodes-framed a d g same t told.depth).told told

  -- some steps, and then others from there
  pub waits-on : (h : LockHand → LockHand) (a d e : Pass R O E C) (b : LockHand) → SpinWaits l quiet site a d b → SpinWaits l quiet site d e (h (lock_hand_of l d)) → SpinWaits l quiet site a e (h b)
  waits-on h a d e b r s = waits-then quiet site l a d e b (h b) r (subst (λ (z : LockHand). SpinWaits l quiet site d e (h z)) r.lock_hand s)

  -- a step behind the turns of a loop
  module _ (a d : Pass R O E C) (w : waits_at (point_in l a) ≡ true) (idle : SpinIdles quiet site a d) where
    pub loop-lock-hand : lock_hand_of l d ≡ lock_hand_of l a
    loop-lock-hand = idles-lock-hand quiet site l a d idle w

    pub loop-waits : (h : Frame → Frame) (e : Pass R O E C) → SpinSteps site d e (framed l (spin_in d) (h (frame_at l (spin_in d)))) → SpinWaits l quiet site a e (lock_hand_with (h (frame_at l (spin_in a))) (lock_hand_of l a))
    loop-waits h e t = waits-after quiet site l a d e (lock_hand_with (h (frame_at l (spin_in a))) (lock_hand_of l a)) idle
        (subst (λ (z : LockHand). SpinWaits l quiet site d e (lock_hand_with (h z.frame) z)) loop-lock-hand (waits-framed d e (h (frame_at l (spin_in d))) t))

    pub loop-nodes : (h : Frame → Frame) (e : Pass R O E C) → uses (h (frame_at l (spin_in a))).point ≡ uses (point_in l a) → SpinSteps site d e (framed l (spin_in d) (h (frame_at l (spin_in d)))) → KeepsNodes a e
    loop-nodes h e same t = nodes-then site a d e (nodes-idle site quiet a d idle)
        (nodes-framed d e (h (frame_at l (spin_in d))) (subst (λ (z : LockHand). uses (h z.frame).point ≡ uses z.frame.point) (sym loop-lock-hand) same) t idle.told.depth)

  -- the top node stays the top node
  pub top-on : (a d : Pass R O E C) → hand_in d ≡ hand_in a → depth_of (spin_in d) ≡ depth_of (spin_in a) → (frame_at l (spin_in d)).code ≡ (frame_at l (spin_in a)).code → HasTop l a → HasTop l d
  top-on a d hand depth code top = record { task = top.task; index = top.index; named = ap (λ h. h.task) hand ∙ top.named; last = top.last ∙ sym depth; is = code ∙ top.is }

  -- the step that takes the lock
  module _ (a d : Pass R O E C) (to : Point) (t : SpinSteps site a d (took_at l (spin_in a) ((view_of a).steps + 1) to)) where
    abbrev pub got : LockHand
    got = taken l (spin_in a) ((view_of a).steps + 1) to

    pub took-lock-hand : lock_hand_of l d ≡ got
    took-lock-hand = ap (λ (x : View E). lock_hand_at l x.spin) t.kept ∙ at-with l (spin_in a) got

    pub took-others : (m : ℕ) → m ≢ l → AreAlike (lock_hand_of m a) (lock_hand_of m d)
    took-others m apart = alike-same (lock_hand_of m a) (lock_hand_of m d) (ap (λ (x : View E). lock_hand_at m x.spin) t.kept ∙ at-else l m (spin_in a) got apart)

    pub took-from : (p : Point) → point_in l a ≡ p → (lock_hand_of l d).from ≡ p
    took-from p is = ap (λ (b : LockHand). b.from) took-lock-hand ∙ is

    pub took-depth : uses to ≡ uses (point_in l a) → depth_of (spin_in d) ≡ depth_of (spin_in a)
    took-depth same = ap (λ (x : View E). depth_of x.spin) t.kept ∙ same-depth l (spin_in a) got same

    pub took-leaves : uses (point_in l a) ≡ true → uses to ≡ false → LeavesNode a d
    took-leaves used free = let e = ap (λ (x : View E). depth_of x.spin) t.kept in let x = depth-with l (spin_in a) got in let y = ap bit used in let z = ap bit free in omega (arith, e, x, y, z)

  -- it holds then
  pub takes-once : (a d : Pass R O E C) → SpinSteps site a d (took_at l (spin_in a) ((view_of a).steps + 1) Holding) → point_in l a ≢ Taking → SpinTakes l quiet site a d
  takes-once a d t from = let b = took-lock-hand a d Holding t in let e = t.kept in record {
    own = t.own;
    face = t.face;
    goes_on = t.goes_on;
    last = t.last;
    gained = record {
      hand = ap (λ (x : View E). x.hand) e;
      fronts = ap (λ (x : View E). x.fronts) e;
      ext = ap (λ (x : View E). x.ext) e;
      holds = ap (λ (x : LockHand). x.frame.point) b;
      others = took-others a d Holding t;
      more = let n = ap (λ (x : View E). x.spin.entries) e in omega (arith, n);
      counted = λ _. ap (λ (x : View E). x.spin.entries) e;
      took = let n = ap (λ (x : LockHand). x.took) b in let s = ap (λ (x : View E). x.steps) e in (omega (arith, n), omega (arith, n, s));
    };
    saw = λ _. ap (λ (x : View E). x.spin.saw) e;
    from = λ f. from (sym (ap (λ (x : LockHand). x.from) b) ∙ f);
    flags = flags-beside l a.nest d.nest (flags-eq a.nest d.nest t.nest);
  }

  -- some steps before
  pub takes-after : (a d e : Pass R O E C) (b : LockHand) → SpinWaits l quiet site a d b → SpinTakes l quiet site d e → SpinTakes l quiet site a e
  takes-after a d e b r s = let g = s.gained in record {
    own = s.own;
    face = s.face ∙ r.face;
    goes_on = λ p h. s.goes_on p (r.goes_on p h);
    last = s.last;
    gained = record {
      hand = g.hand ∙ r.hand;
      fronts = g.fronts ∙ r.fronts;
      ext = g.ext ∙ r.ext;
      holds = g.holds;
      others = λ m apart. alike-then (lock_hand_of m a) (lock_hand_of m d) (lock_hand_of m e) (r.others m apart) (g.others m apart);
      more = let x = r.entries in let y = g.more in omega (arith, x, y);
      counted = λ q. let x = (r.still q).1 in let y = g.counted q in omega (arith, x, y);
      took = let x = r.later in let y = g.took.0 in (omega (arith, x, y), g.took.1);
    };
    saw = λ q. s.saw q ∙ (r.still q).0;
    from = s.from;
    flags = beside-then l a.nest d.nest e.nest r.flags s.flags;
  }

  -- other calls before
  pub takes-idle : (a d e : Pass R O E C) → SpinIdles quiet site a d → SpinTakes l quiet site d e → waits_at (point_in l a) ≡ true → SpinTakes l quiet site a e
  takes-idle a d e r s w = let g = s.gained in record {
    own = s.own;
    face = s.face ∙ r.face;
    goes_on = λ p h. s.goes_on p (r.goes_on p h);
    last = s.last;
    gained = record {
      hand = g.hand ∙ r.leaves.hand;
      fronts = g.fronts ∙ r.leaves.fronts;
      ext = g.ext ∙ r.leaves.ext;
      holds = g.holds;
      others = λ m apart. alike-then (lock_hand_of m a) (lock_hand_of m d) (lock_hand_of m e) (r.leaves.alike m) (g.others m apart);
      more = let x = r.leaves.entries in let y = g.more in omega (arith, x, y);
      counted = λ q. let x = (r.still q).1 in let y = g.counted q in omega (arith, x, y);
      took = let x = r.leaves.later in let y = g.took.0 in (omega (arith, x, y), g.took.1);
    };
    saw = λ q. s.saw q ∙ (r.still q).0;
    from = s.from;
    flags = beside-then l a.nest d.nest e.nest (flags-beside l a.nest d.nest r.flags) s.flags;
  }

  -- as the head it takes the lock, waits for its successor, and makes that the head
  module _ (a d e z : Pass R O E C) (ready : point_in l a ≡ Ready) (t : SpinSteps site a d (took_at l (spin_in a) ((view_of a).steps + 1) Passing)) (f : Frame) (w : SpinWaits l quiet site d e (lock_hand_with f (lock_hand_of l d))) (last : SpinSteps site e z (went l (spin_in e) Holding)) where
    final : lock_hand_of l z ≡ lock_hand_with (at_point f Holding) (got a d Passing t)
    final = ap (λ (x : View E). lock_hand_at l x.spin) last.kept ∙ (at-with l (spin_in e) (lock_hand_to Holding (lock_hand_of l e)) ∙ ap (lock_hand_to Holding) (w.lock_hand ∙ ap (lock_hand_with f) (took-lock-hand a d Passing t)))

    pub hands-from : (lock_hand_of l z).from ≡ Ready
    hands-from = ap (λ (b : LockHand). b.from) final ∙ ready

    pub hands-on : SpinTakes l quiet site a z
    hands-on = let k = last.kept in let j = t.kept in record {
      own = last.own;
      face = last.face ∙ (w.face ∙ t.face);
      goes_on = λ p h. last.goes_on p (w.goes_on p (t.goes_on p h));
      last = last.last;
      gained = record {
        hand = ap (λ (x : View E). x.hand) k ∙ (w.hand ∙ ap (λ (x : View E). x.hand) j);
        fronts = ap (λ (x : View E). x.fronts) k ∙ (w.fronts ∙ ap (λ (x : View E). x.fronts) j);
        ext = ap (λ (x : View E). x.ext) k ∙ (w.ext ∙ ap (λ (x : View E). x.ext) j);
        holds = ap (λ (b : LockHand). b.frame.point) final;
        others = λ m apart. alike-then (lock_hand_of m a) (lock_hand_of m e) (lock_hand_of m z) (alike-then (lock_hand_of m a) (lock_hand_of m d) (lock_hand_of m e) (took-others a d Passing t m apart) (w.others m apart))
            (alike-same (lock_hand_of m e) (lock_hand_of m z) (ap (λ (x : View E). lock_hand_at m x.spin) k ∙ at-else l m (spin_in e) (lock_hand_to Holding (lock_hand_of l e)) apart));
        more = let x = ap (λ (x : View E). x.spin.entries) j in let y = w.entries in let s = ap (λ (x : View E). x.spin.entries) k in omega (arith, x, y, s);
        counted = λ q. let x = ap (λ (x : View E). x.spin.entries) j in let y = (w.still q).1 in let s = ap (λ (x : View E). x.spin.entries) k in omega (arith, x, y, s);
        took = let n = ap (λ (b : LockHand). b.took) final in let x = ap (λ (x : View E). x.steps) j in let y = w.later in let s = ap (λ (x : View E). x.steps) k in (omega (arith, n), omega (arith, n, x, y, s));
      };
      saw = λ q. ap (λ (x : View E). x.spin.saw) k ∙ ((w.still q).0 ∙ ap (λ (x : View E). x.spin.saw) j);
      from = λ e. let no : Ready ≡ Taking = sym ready ∙ (sym (ap (λ (b : LockHand). b.from) final) ∙ e) in absurd cc;
      flags = beside-then l a.nest d.nest z.nest (flags-beside l a.nest d.nest (flags-eq a.nest d.nest t.nest)) (beside-then l d.nest e.nest z.nest w.flags (flags-beside l e.nest z.nest (flags-eq e.nest z.nest last.nest)));
    }

  -- and where it knows its successor, at once
  module _ (a d z : Pass R O E C) (ready : point_in l a ≡ Ready) (t : SpinSteps site a d (took_at l (spin_in a) ((view_of a).steps + 1) Passing)) (last : SpinSteps site d z (went l (spin_in d) Holding)) where
    final-now : lock_hand_of l z ≡ lock_hand_to Holding (got a d Passing t)
    final-now = ap (λ (x : View E). lock_hand_at l x.spin) last.kept ∙ (at-with l (spin_in d) (lock_hand_to Holding (lock_hand_of l d)) ∙ ap (lock_hand_to Holding) (took-lock-hand a d Passing t))

    pub hands-now-from : (lock_hand_of l z).from ≡ Ready
    hands-now-from = ap (λ (b : LockHand). b.from) final-now ∙ ready

    pub hands-now : SpinTakes l quiet site a z
    hands-now = let k = last.kept in let j = t.kept in record {
      own = last.own;
      face = last.face ∙ t.face;
      goes_on = λ p h. last.goes_on p (t.goes_on p h);
      last = last.last;
      gained = record {
        hand = ap (λ (x : View E). x.hand) k ∙ ap (λ (x : View E). x.hand) j;
        fronts = ap (λ (x : View E). x.fronts) k ∙ ap (λ (x : View E). x.fronts) j;
        ext = ap (λ (x : View E). x.ext) k ∙ ap (λ (x : View E). x.ext) j;
        holds = ap (λ (b : LockHand). b.frame.point) final-now;
        others = λ m apart. alike-then (lock_hand_of m a) (lock_hand_of m d) (lock_hand_of m z) (took-others a d Passing t m apart)
            (alike-same (lock_hand_of m d) (lock_hand_of m z) (ap (λ (x : View E). lock_hand_at m x.spin) k ∙ at-else l m (spin_in d) (lock_hand_to Holding (lock_hand_of l d)) apart));
        more = let x = ap (λ (x : View E). x.spin.entries) j in let s = ap (λ (x : View E). x.spin.entries) k in omega (arith, x, s);
        counted = λ q. let x = ap (λ (x : View E). x.spin.entries) j in let s = ap (λ (x : View E). x.spin.entries) k in omega (arith, x, s);
        took = let n = ap (λ (b : LockHand). b.took) final-now in let x = ap (λ (x : View E). x.steps) j in let s = ap (λ (x : View E). x.steps) k in (omega (arith, n), omega (arith, n, x, s));
      };
      saw = λ q. ap (λ (x : View E). x.spin.saw) k ∙ ap (λ (x : View E). x.spin.saw) j;
      from = λ e. let no : Ready ≡ Taking = sym ready ∙ (sym (ap (λ (b : LockHand). b.from) final-now) ∙ e) in absurd cc;
      flags = flags-beside l a.nest z.nest (flags-then a.nest d.nest z.nest (flags-eq a.nest d.nest t.nest) (flags-eq d.nest z.nest last.nest));
    }

  -- its node leaves with the last step
  pub went-leaves : (a d : Pass R O E C) → uses (point_in l a) ≡ true → SpinSteps site a d (went l (spin_in a) Holding) → LeavesNode a d
  went-leaves a d used t = let e = ap (λ (x : View E). depth_of x.spin) t.kept in let x = depth-with l (spin_in a) (lock_hand_to Holding (lock_hand_of l a)) in let y = ap bit used in omega (arith, e, x, y)
