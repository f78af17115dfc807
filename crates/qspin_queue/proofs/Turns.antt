-- The turns of the waiting loops, and the steps between them.
use Rattle.std.proofs.Common.{◌≡◌, ◌≢◌, ℕ, ◌+◌, ◌%◌, ◌<◌, ◌≤◌, Bool, true, false, refl, sym, ap, ◌∙◌, subst, arith, eq-eqb, ne_eqb, ltb, if◌then◌else◌}
use mathlib.Core.Logic.{dite}
use native.Mathlib.Decide.{ℕ_discrete}
use Rattle.lock_core.specs.SpinFrames.{uses}
use Rattle.lock_core.specs.LockHands.{lock_hand_at, frame_at, point_at, depth_of, at-with, at-else}
use Rattle.lock_core.specs.Spins.{tail_in}
use Rattle.lock_core.specs.SiteHandles.{view_of, IsNestTold}
use Rattle.qspin_word.specs.SpinWordHands.{at_point, framed, went, took_at}
use Rattle.lock_core.specs.Nestings.{is_held, waits_at}
use Rattle.qspin_word.specs.Ways.{lock_hand_to}
use Rattle.qspin_word.specs.SpinWordHandles.{spin_in, lock_hand_of, point_in, SpinSteps, SpinWaits, SpinIdles, KeepsNodes}
use Rattle.qspin_queue.specs.SpinQueueHandles.{SpinTakes, LeavesNode}
use Rattle.qspin_queue.specs.SpinQueueHands.{lock_hand_with, as_head, entered, queued, heard, learnt, readied, retried, took_last}
use Rattle.qspin_queue.specs.Types.{Pass, Site, View, LockHand, Frame, Point, Taking, Cleared, Linking, Waiting, Head, Ready, Passing, Holding}
use Rattle.qspin_word.proofs.Noting.{flags-eq, told-points}
use Rattle.qspin_word.proofs.Idling.{alike-same, idles-then, idles-look}
use Rattle.qspin_word.proofs.Passing.{steps-as}
use Rattle.qspin_queue.proofs.Queueing.{nodes-framed, framed-told, took-from, loop-waits, loop-nodes, loop-lock-hand, takes-once, took-leaves, took-lock-hand, takes-idle}

module _ {E : Type 0} (l n : ℕ) (v : View E) where
  pub heard-one : n ≡ 1 → heard l n v ≡ framed l v.spin (as_head (frame_at l v.spin))
  heard-one one = ap (λ (b : Bool). if b then framed l v.spin (as_head (frame_at l v.spin)) else v.spin) (eq-eqb n 1 one)

  pub heard-none : n ≢ 1 → heard l n v ≡ v.spin
  heard-none none = ap (λ (b : Bool). if b then framed l v.spin (as_head (frame_at l v.spin)) else v.spin) (ne_eqb n 1 none)

  pub readied-free : n % 512 ≡ 0 → readied l n v ≡ went l v.spin Ready
  readied-free free = ap (λ (b : Bool). if b then went l v.spin Ready else v.spin) (eq-eqb (n % 512) 0 free)

  pub readied-taken : n % 512 ≢ 0 → readied l n v ≡ v.spin
  readied-taken taken = ap (λ (b : Bool). if b then went l v.spin Ready else v.spin) (ne_eqb (n % 512) 0 taken)

  frames : (b : Bool) (f g : Frame) → (if b then framed l v.spin f else framed l v.spin g) ≡ framed l v.spin (if b then f else g)
  frames true f g = refl
  frames false f g = refl

  pub queued-there : (from : ℕ) → n ≡ from → queued l from n v ≡ framed l v.spin (entered n (frame_at l v.spin))
  queued-there from same = let f : Frame = frame_at l v.spin in let a : Frame = record f { point = Head; found = 0; next = 0 } in let b : Frame = record f { point = Linking; found = tail_in n } in
      ap (λ (x : Bool). if x then (if ltb n 512 then framed l v.spin a else framed l v.spin b) else v.spin) (eq-eqb n from same) ∙ frames (ltb n 512) a b

  pub missed-last : (from : ℕ) → n ≢ from → took_last l from n v ≡ v.spin
  missed-last from not = ap (λ (b : Bool). if b then took_at l v.spin (v.steps + 1) Holding else v.spin) (ne_eqb n from not)

  pub took-it : (from : ℕ) → n ≡ from → took_last l from n v ≡ took_at l v.spin (v.steps + 1) Holding
  took-it from same = ap (λ (b : Bool). if b then took_at l v.spin (v.steps + 1) Holding else v.spin) (eq-eqb n from same)

  pub retried-free : n ≡ 0 → retried l n v ≡ took_at l v.spin (v.steps + 1) Holding
  retried-free free = ap (λ (b : Bool). if b then took_at l v.spin (v.steps + 1) Holding else v.spin) (eq-eqb n 0 free)

  pub retried-taken : n ≢ 0 → retried l n v ≡ v.spin
  retried-taken not = ap (λ (b : Bool). if b then took_at l v.spin (v.steps + 1) Holding else v.spin) (ne_eqb n 0 not)

-- who entered is the head, or has another before it
entered-either : (P : Point → Type 0) (n : ℕ) (f : Frame) → P Head → P Linking → P (entered n f).point
entered-either P n f first behind = go (ltb n 512)
  where
    go : (b : Bool) → P (if b then record f { point = Head; found = 0; next = 0 } else record f { point = Linking; found = tail_in n }).point
    go true = first
    go false = behind

pub entered-uses : (n : ℕ) (f : Frame) → uses (entered n f).point ≡ true
entered-uses n f = entered-either (λ p. uses p ≡ true) n f refl refl

pub entered-held : (n : ℕ) (f : Frame) → is_held (entered n f).point ≡ false
entered-held n f = entered-either (λ p. is_held p ≡ false) n f refl refl

pub entered-waits : (n : ℕ) (f : Frame) → waits_at (entered n f).point ≡ true
entered-waits n f = entered-either (λ p. waits_at p ≡ true) n f refl refl

pub entered-code : (n : ℕ) (f : Frame) → (entered n f).code ≡ f.code
entered-code n f = go (ltb n 512)
  where
    go : (b : Bool) → (if b then record f { point = Head; found = 0; next = 0 } else record f { point = Linking; found = tail_in n }).code ≡ f.code
    go true = refl
    go false = refl

module _ {R O E C : Type 0} (site : Site R O E C) (l : ℕ) (quiet : Type 0) where
  -- a step that leaves the frame
  pub idles-framed : (a b : Pass R O E C) (g : Frame) → g ≡ frame_at l (spin_in a) → SpinSteps site a b (framed l (spin_in a) g) → IsNestTold a → SpinIdles quiet site a b
  idles-framed a b g same t told = let k = nodes-framed site l quiet a b g (ap (λ (f : Frame). uses f.point) same) t told.depth in let e = t.kept in record {
    own = t.own;
    face = t.face;
    goes_on = t.goes_on;
    told = told-points a b (flags-eq a.nest b.nest t.nest) (λ m. ap (λ (x : LockHand). x.frame.point) (ap (λ (x : View E). lock_hand_at m x.spin) e ∙ stays m)) k.told told;
    flags = flags-eq a.nest b.nest t.nest;
    leaves = record {
      hand = ap (λ (x : View E). x.hand) e;
      fronts = ap (λ (x : View E). x.fronts) e;
      ext = ap (λ (x : View E). x.ext) e;
      alike = λ m. alike-same (lock_hand_of m a) (lock_hand_of m b) (ap (λ (x : View E). lock_hand_at m x.spin) e ∙ stays m);
      depth = k.same;
      entries = let n = ap (λ (x : View E). x.spin.entries) e in omega (arith, n);
      later = let n = ap (λ (x : View E). x.steps) e in omega (arith, n);
    };
    still = λ _. (ap (λ (x : View E). x.spin.saw) e, ap (λ (x : View E). x.spin.entries) e);
  }
    where
      stays : (m : ℕ) → lock_hand_at m (framed l (spin_in a) g) ≡ lock_hand_of m a
      stays m = dite (ℕ_discrete m l)
          (λ e. ap (λ (r : ℕ). lock_hand_at r (framed l (spin_in a) g)) e ∙ (at-with l (spin_in a) (lock_hand_with g (lock_hand_of l a)) ∙ (ap (λ (f : Frame). lock_hand_with f (lock_hand_of l a)) same ∙ ap (λ (r : ℕ). lock_hand_of r a) (sym e))))
          (λ apart. at-else l m (spin_in a) (lock_hand_with g (lock_hand_of l a)) apart)

  -- it is in its loop, and what it waits for comes
  pub head-waits : (n : ℕ) (a d e : Pass R O E C) → point_in l a ≡ Waiting → SpinIdles quiet site a d → SpinSteps site d e (heard l n (view_of d)) → n ≡ 1 → SpinWaits l quiet site a e (lock_hand_with (as_head (frame_at l (spin_in a))) (lock_hand_of l a))
  head-waits n a d e p idle t one = loop-waits site l quiet a d (ap waits_at p) idle as_head e (steps-as site d e (heard l n (view_of d)) (framed l (spin_in d) (as_head (frame_at l (spin_in d)))) (heard-one l n (view_of d) one) t)

  pub head-nodes : (n : ℕ) (a d e : Pass R O E C) → point_in l a ≡ Waiting → SpinIdles quiet site a d → SpinSteps site d e (heard l n (view_of d)) → n ≡ 1 → KeepsNodes a e
  head-nodes n a d e p idle t one = loop-nodes site l quiet a d (ap waits_at p) idle as_head e (sym (ap uses p)) (steps-as site d e (heard l n (view_of d)) (framed l (spin_in d) (as_head (frame_at l (spin_in d)))) (heard-one l n (view_of d) one) t)

  pub ready-waits : (n : ℕ) (a d e : Pass R O E C) → point_in l a ≡ Head → SpinIdles quiet site a d → SpinSteps site d e (readied l n (view_of d)) → n % 512 ≡ 0 → SpinWaits l quiet site a e (lock_hand_to Ready (lock_hand_of l a))
  ready-waits n a d e p idle t free = loop-waits site l quiet a d (ap waits_at p) idle (λ f. at_point f Ready) e (steps-as site d e (readied l n (view_of d)) (went l (spin_in d) Ready) (readied-free l n (view_of d) free) t)

  pub ready-nodes : (n : ℕ) (a d e : Pass R O E C) → point_in l a ≡ Head → SpinIdles quiet site a d → SpinSteps site d e (readied l n (view_of d)) → n % 512 ≡ 0 → KeepsNodes a e
  ready-nodes n a d e p idle t free = loop-nodes site l quiet a d (ap waits_at p) idle (λ f. at_point f Ready) e (sym (ap uses p)) (steps-as site d e (readied l n (view_of d)) (went l (spin_in d) Ready) (readied-free l n (view_of d) free) t)

  pub late-waits : (n : ℕ) (a d e : Pass R O E C) → point_in l a ≡ Passing → SpinIdles quiet site a d → SpinSteps site d e (learnt l Passing n (view_of d)) → SpinWaits l quiet site a e (lock_hand_with (record (frame_at l (spin_in a)) { point = Passing; next = n }) (lock_hand_of l a))
  late-waits n a d e p idle t = loop-waits site l quiet a d (ap waits_at p) idle (λ f. record f { point = Passing; next = n }) e t

  pub late-nodes : (n : ℕ) (a d e : Pass R O E C) → point_in l a ≡ Passing → SpinIdles quiet site a d → SpinSteps site d e (learnt l Passing n (view_of d)) → KeepsNodes a e
  late-nodes n a d e p idle t = loop-nodes site l quiet a d (ap waits_at p) idle (λ f. record f { point = Passing; next = n }) e (sym (ap uses p)) t

  -- what it notes of the locks is so, since it waits on
  module _ (few : l < 8) (a d e : Pass R O E C) (idle : SpinIdles quiet site a d) where
    loop-told : (p : Point) (g : Frame) → waits_at p ≡ true → point_in l a ≡ p → is_held g.point ≡ is_held p → waits_at g.point ≡ waits_at p → uses g.point ≡ uses p → SpinSteps site d e (framed l (spin_in d) g) → IsNestTold e
    loop-told p g w is held waits same t = let q : point_in l d ≡ p = ap (λ (b : LockHand). b.frame.point) (loop-lock-hand site l quiet a d (ap waits_at is ∙ w) idle) ∙ is in
        framed-told site l quiet d e g few (held ∙ sym (ap is_held q)) (waits ∙ sym (ap waits_at q)) (same ∙ sym (ap uses q)) t idle.told

    pub head-told : (n : ℕ) → point_in l a ≡ Waiting → SpinSteps site d e (heard l n (view_of d)) → n ≡ 1 → IsNestTold e
    head-told n is t one = loop-told Waiting (as_head (frame_at l (spin_in d))) refl is refl refl refl (steps-as site d e (heard l n (view_of d)) (framed l (spin_in d) (as_head (frame_at l (spin_in d)))) (heard-one l n (view_of d) one) t)

    pub ready-told : (n : ℕ) → point_in l a ≡ Head → SpinSteps site d e (readied l n (view_of d)) → n % 512 ≡ 0 → IsNestTold e
    ready-told n is t free = loop-told Head (at_point (frame_at l (spin_in d)) Ready) refl is refl refl refl (steps-as site d e (readied l n (view_of d)) (went l (spin_in d) Ready) (readied-free l n (view_of d) free) t)

    pub late-told : (n : ℕ) → point_in l a ≡ Passing → SpinSteps site d e (learnt l Passing n (view_of d)) → IsNestTold e
    late-told n is t = loop-told Passing (record (frame_at l (spin_in d)) { point = Passing; next = n }) refl is refl refl refl t

    pub entry-told : (n from : ℕ) → point_in l a ≡ Cleared → SpinSteps site d e (queued l from n (view_of d)) → n ≡ from → IsNestTold e
    entry-told n from is t same = let f : Frame = frame_at l (spin_in d) in loop-told Cleared (entered n f) refl is (entered-held n f) (entered-waits n f) (entered-uses n f) (steps-as site d e (queued l from n (view_of d)) (framed l (spin_in d) (entered n f)) (queued-there l n (view_of d) from same) t)

  -- a turn that sees no successor
  pub late-idles : (n : ℕ) (a d e : Pass R O E C) → point_in l a ≡ Passing → (frame_at l (spin_in a)).next ≡ 0 → SpinIdles quiet site a d → SpinSteps site d e (learnt l Passing n (view_of d)) → n ≡ 0 → SpinIdles quiet site a e
  late-idles n a d e p none idle t zero_seen = idles-then quiet site a d e idle (idles-framed d e (record (frame_at l (spin_in d)) { point = Passing; next = n })
      (let b = loop-lock-hand site l quiet a d (ap waits_at p) idle in let f : Frame = frame_at l (spin_in d) in let pt : f.point ≡ Passing = ap (λ (x : LockHand). x.frame.point) b ∙ p in let nx : f.next ≡ 0 = ap (λ (x : LockHand). x.frame.next) b ∙ none in
      ap (λ (z : Point × ℕ). record f { point = z.0; next = z.1 }) (λ i. (sym pt i, (zero_seen ∙ sym nx) i))) t idle.told)

  -- the turns before the exchange of the tail
  pub entry-idles : (a d e : Pass R O E C) → SpinIdles quiet site a d → SpinSteps site d e (spin_in d) → SpinIdles quiet site a e
  entry-idles a d e idle t = idles-then quiet site a d e idle (idles-look quiet site d e (spin_in d) idle.told t refl)

  pub entry-waits : (n from : ℕ) (a d e : Pass R O E C) → point_in l a ≡ Cleared → SpinIdles quiet site a d → SpinSteps site d e (queued l from n (view_of d)) → n ≡ from → SpinWaits l quiet site a e (lock_hand_with (entered from (frame_at l (spin_in a))) (lock_hand_of l a))
  entry-waits n from a d e p idle t same = subst (λ (z : ℕ). SpinWaits l quiet site a e (lock_hand_with (entered z (frame_at l (spin_in a))) (lock_hand_of l a))) same
      (loop-waits site l quiet a d (ap waits_at p) idle (entered n) e (steps-as site d e (queued l from n (view_of d)) (framed l (spin_in d) (entered n (frame_at l (spin_in d)))) (queued-there l n (view_of d) from same) t))

  pub entry-nodes : (n from : ℕ) (a d e : Pass R O E C) → point_in l a ≡ Cleared → SpinIdles quiet site a d → SpinSteps site d e (queued l from n (view_of d)) → n ≡ from → KeepsNodes a e
  entry-nodes n from a d e p idle t same = loop-nodes site l quiet a d (ap waits_at p) idle (entered n) e (entered-uses n (frame_at l (spin_in a)) ∙ sym (ap uses p)) (steps-as site d e (queued l from n (view_of d)) (framed l (spin_in d) (entered n (frame_at l (spin_in d)))) (queued-there l n (view_of d) from same) t)

  -- the head leaves alone, or doesn't
  pub last-takes : (n from : ℕ) (a d : Pass R O E C) → point_in l a ≡ Ready → SpinSteps site a d (took_last l from n (view_of a)) → n ≡ from → SpinTakes l quiet site a d
  last-takes n from a d p t same = takes-once site l quiet a d (steps-as site a d (took_last l from n (view_of a)) (took_at l (spin_in a) ((view_of a).steps + 1) Holding) (took-it l n (view_of a) from same) t) (λ e. let no : Ready ≡ Taking = sym p ∙ e in absurd cc)

  pub last-leaves : (n from : ℕ) (a d : Pass R O E C) → point_in l a ≡ Ready → SpinSteps site a d (took_last l from n (view_of a)) → n ≡ from → LeavesNode a d
  last-leaves n from a d p t same = took-leaves site l quiet a d Holding (steps-as site a d (took_last l from n (view_of a)) (took_at l (spin_in a) ((view_of a).steps + 1) Holding) (took-it l n (view_of a) from same) t) (ap uses p) refl

  pub last-missed : (n from : ℕ) (a d : Pass R O E C) → SpinSteps site a d (took_last l from n (view_of a)) → IsNestTold a → n ≢ from → SpinIdles quiet site a d
  last-missed n from a d t told not = idles-look quiet site a d (took_last l from n (view_of a)) told t (missed-last l n (view_of a) from not)

  -- so with the try of a pass that has cleared its node
  pub retry-takes : (n : ℕ) (a d : Pass R O E C) → point_in l a ≡ Cleared → SpinSteps site a d (retried l n (view_of a)) → n ≡ 0 → SpinTakes l quiet site a d
  retry-takes n a d p t same = takes-once site l quiet a d (steps-as site a d (retried l n (view_of a)) (took_at l (spin_in a) ((view_of a).steps + 1) Holding) (retried-free l n (view_of a) same) t) (λ e. let no : Cleared ≡ Taking = sym p ∙ e in absurd cc)

  pub retry-leaves : (n : ℕ) (a d : Pass R O E C) → point_in l a ≡ Cleared → SpinSteps site a d (retried l n (view_of a)) → n ≡ 0 → LeavesNode a d
  retry-leaves n a d p t same = took-leaves site l quiet a d Holding (steps-as site a d (retried l n (view_of a)) (took_at l (spin_in a) ((view_of a).steps + 1) Holding) (retried-free l n (view_of a) same) t) (ap uses p) refl

  pub retry-missed : (n : ℕ) (a d : Pass R O E C) → SpinSteps site a d (retried l n (view_of a)) → IsNestTold a → n ≢ 0 → SpinIdles quiet site a d
  retry-missed n a d t told not = idles-look quiet site a d (retried l n (view_of a)) told t (retried-taken l n (view_of a) not)

  -- where it stood before
  pub last-from : (n from : ℕ) (a d : Pass R O E C) → point_in l a ≡ Ready → SpinSteps site a d (took_last l from n (view_of a)) → n ≡ from → (lock_hand_of l d).from ≡ Ready
  last-from n from a d p t same = took-from site l quiet a d Holding (steps-as site a d (took_last l from n (view_of a)) (took_at l (spin_in a) ((view_of a).steps + 1) Holding) (took-it l n (view_of a) from same) t) Ready p

  pub tried-from : (n : ℕ) (a m d : Pass R O E C) → point_in l a ≡ Cleared → SpinSteps site a m (spin_in a) → SpinSteps site m d (retried l n (view_of m)) → n ≡ 0 → ((lock_hand_of l d).from ≡ Cleared) × ((lock_hand_of l d).took ≤ (view_of a).steps + 2)
  tried-from n a m d p first t same = let s = steps-as site m d (retried l n (view_of m)) (took_at l (spin_in m) ((view_of m).steps + 1) Holding) (retried-free l n (view_of m) same) t in
      (took-from site l quiet m d Holding s Cleared (ap (λ (x : View E). point_at l x.spin) first.kept ∙ p), let b = ap (λ (x : LockHand). x.took) (took-lock-hand site l quiet m d Holding s) in let e = ap (λ (x : View E). x.steps) first.kept in omega (arith, b, e))

  -- a look, and then a try
  pub tried-takes : (n : ℕ) (a m d : Pass R O E C) → point_in l a ≡ Cleared → IsNestTold a → SpinSteps site a m (spin_in a) → SpinSteps site m d (retried l n (view_of m)) → n ≡ 0 → SpinTakes l quiet site a d
  tried-takes n a m d p told first t same = let idle = idles-look quiet site a m (spin_in a) told first refl in takes-idle site l quiet a m d idle (retry-takes n m d (ap (λ (x : View E). point_at l x.spin) first.kept ∙ p) t same) (ap waits_at p)

  pub tried-leaves : (n : ℕ) (a m d : Pass R O E C) → point_in l a ≡ Cleared → IsNestTold a → SpinSteps site a m (spin_in a) → SpinSteps site m d (retried l n (view_of m)) → n ≡ 0 → LeavesNode a d
  tried-leaves n a m d p told first t same = let x = retry-leaves n m d (ap (λ (x : View E). point_at l x.spin) first.kept ∙ p) t same in let y = ap (λ (x : View E). depth_of x.spin) first.kept in omega (arith, x, y)
