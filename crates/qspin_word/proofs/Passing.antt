-- The way by the pending bit, step by step.
use Rattle.std.proofs.Common.{◌≡◌, ◌≢◌, ℕ, ◌+◌, ◌/◌, ◌%◌, ◌==◌, ◌<◌, ◌≤◌, Bool, true, false, refl, sym, ap, ◌∙◌, subst, arith, eq-eqb, ne_eqb, if◌then◌else◌}
use Rattle.std.proofs.lemmas.Bool.{le-ltb, lt-ltb}
use Rattle.lock_core.specs.SpinFrames.{uses}
use Rattle.lock_core.specs.LockHands.{lock_hand_at, point_at, depth_of, RestsAt, at-with, at-else}
use Rattle.lock_core.specs.SiteHandles.{view_of, IsDepthTold, IsNestTold, NotesLock}
use Rattle.qspin_word.specs.SpinWordHands.{went, taken, saw_word, pended, undone, awaited, turned}
use Rattle.lock_core.specs.Nestings.{is_held, waits_at}
use Rattle.qspin_word.specs.Ways.{lock_hand_to, LockGained}
use Rattle.qspin_word.specs.SpinWordHandles.{spin_in, lock_hand_of, point_in, SpinSteps, SpinWaits, SpinIdles, KeepsNodes}
use Rattle.qspin_word.specs.Types.{Pass, Site, View, LockHand, SpinHand, Point, Out, Undoing, Pending, Taking, Holding}
use Rattle.qspin_word.proofs.OwnNodes.{same-depth}
use Rattle.qspin_word.proofs.Going.{depth-step}
use Rattle.qspin_word.proofs.Noting.{noted-point, others-on, others-told, told-noted}
use Rattle.qspin_word.proofs.Idling.{alike-then, alike-same, waits-once, waits-after, idles-lock-hand}

module _ {R O E C : Type 0} (site : Site R O E C) where
  pub steps-as : (a b : Pass R O E C) (s s' : SpinHand) → s ≡ s' → SpinSteps site a b s → SpinSteps site a b s'
  steps-as a b s s' e = subst (SpinSteps site a b) e

  pub nodes-step : (a b : Pass R O E C) (s : SpinHand) → SpinSteps site a b s → depth_of s ≡ depth_of (spin_in a) → IsDepthTold a → KeepsNodes a b
  nodes-step a b s t same told = record { told = depth-step a b site s t same told; same = ap (λ (x : View E). depth_of x.spin) t.kept ∙ same }

  pub nodes-then : (a b d : Pass R O E C) → KeepsNodes a b → KeepsNodes b d → KeepsNodes a d
  nodes-then a b d r s = record { told = s.told; same = s.same ∙ r.same }

  pub nodes-idle : (quiet : Type 0) (a b : Pass R O E C) → SpinIdles quiet site a b → KeepsNodes a b
  nodes-idle quiet a b r = record { told = r.told.depth; same = r.leaves.depth }

  -- a step that goes on to another point, with the node that it uses or without one
  pub waits-went : (l : ℕ) (quiet : Type 0) (a d : Pass R O E C) (p : Point) → SpinSteps site a d (went l (spin_in a) p) → SpinWaits l quiet site a d (lock_hand_to p (lock_hand_of l a))
  waits-went l quiet a d p t = let b : LockHand = lock_hand_to p (lock_hand_of l a) in waits-once quiet site l a d (went l (spin_in a) p) b t (at-with l (spin_in a) b) (λ m apart. at-else l m (spin_in a) b apart) refl refl

  pub nodes-went : (l : ℕ) (a d : Pass R O E C) (p : Point) → uses p ≡ uses (point_in l a) → SpinSteps site a d (went l (spin_in a) p) → IsDepthTold a → KeepsNodes a d
  nodes-went l a d p same t told = nodes-step a d (went l (spin_in a) p) t (same-depth l (spin_in a) (lock_hand_to p (lock_hand_of l a)) same) told

  -- the owner of the pending bit sees the byte 0
  free-seen : (l n : ℕ) (v : View E) → n % 256 ≡ 0 → awaited l n v ≡ went l v.spin Taking
  free-seen l n v free = ap (λ (b : Bool). if b then went l v.spin Taking else v.spin) (eq-eqb (n % 256) 0 free)

  -- or not 0
  pub held-seen : (l n : ℕ) (v : View E) → n % 256 ≢ 0 → awaited l n v ≡ v.spin
  held-seen l n v held = ap (λ (b : Bool). if b then went l v.spin Taking else v.spin) (ne_eqb (n % 256) 0 held)

  pub pending-seen : (l n : ℕ) (quiet : Type 0) (a d e : Pass R O E C) → point_in l a ≡ Pending → SpinIdles quiet site a d → SpinSteps site d e (awaited l n (view_of d)) → n % 256 ≡ 0 → SpinWaits l quiet site a e (lock_hand_to Taking (lock_hand_of l a))
  pending-seen l n quiet a d e p r t free = let w = waits-went l quiet d e Taking (steps-as d e (awaited l n (view_of d)) (went l (spin_in d) Taking) (free-seen l n (view_of d) free) t) in
      waits-after quiet site l a d e (lock_hand_to Taking (lock_hand_of l a)) r (subst (λ (b : LockHand). SpinWaits l quiet site d e (lock_hand_to Taking b)) (idles-lock-hand quiet site l a d r (ap waits_at p)) w)

  pub pending-nodes : (l n : ℕ) (quiet : Type 0) (a d e : Pass R O E C) → point_in l a ≡ Pending → SpinIdles quiet site a d → SpinSteps site d e (awaited l n (view_of d)) → n % 256 ≡ 0 → KeepsNodes a e
  pending-nodes l n quiet a d e p r t free = nodes-then a d e (nodes-idle quiet a d r)
      (nodes-went l d e Taking (sym (ap uses (ap (λ (b : LockHand). b.frame.point) (idles-lock-hand quiet site l a d r (ap waits_at p)) ∙ p))) (steps-as d e (awaited l n (view_of d)) (went l (spin_in d) Taking) (free-seen l n (view_of d) free) t) r.told.depth)

  -- the pending bit was set
  pub owns-seen : (l n : ℕ) (v : View E) → n < 256 → pended l n v ≡ went l v.spin Pending
  owns-seen l n v low = ap (λ (b : Bool). if b then went l v.spin Pending else if (n / 256) % 2 == 0 then saw_word (went l v.spin Undoing) n (v.steps + 1) else saw_word v.spin n (v.steps + 1)) (lt-ltb n 256 low)

  pub tail-seen : (l n : ℕ) (v : View E) → 256 ≤ n → (n / 256) % 2 ≡ 0 → pended l n v ≡ saw_word (went l v.spin Undoing) n (v.steps + 1)
  tail-seen l n v high unset = ap (λ (b : Bool). if b then went l v.spin Pending else if (n / 256) % 2 == 0 then saw_word (went l v.spin Undoing) n (v.steps + 1) else saw_word v.spin n (v.steps + 1)) (le-ltb n 256 high)
      ∙ ap (λ (b : Bool). if b then saw_word (went l v.spin Undoing) n (v.steps + 1) else saw_word v.spin n (v.steps + 1)) (eq-eqb ((n / 256) % 2) 0 unset)

  module _ (l n : ℕ) (a m : Pass R O E C) (first : SpinSteps site a m (pended l n (view_of a))) where
    pub owns-point : n < 256 → point_in l m ≡ Pending
    owns-point low = ap (λ (x : View E). point_at l x.spin) first.kept ∙ (ap (point_at l) (owns-seen l n (view_of a) low) ∙ ap (λ (b : LockHand). b.frame.point) (at-with l (spin_in a) (lock_hand_to Pending (lock_hand_of l a))))

    pub owns-nodes : n < 256 → RestsAt l (spin_in a) → IsDepthTold a → KeepsNodes a m
    owns-nodes low out told = nodes-went l a m Pending (sym (ap uses out)) (steps-as a m (pended l n (view_of a)) (went l (spin_in a) Pending) (owns-seen l n (view_of a) low) first) told

    pub tail-point : 256 ≤ n → (n / 256) % 2 ≡ 0 → point_in l m ≡ Undoing
    tail-point high unset = ap (λ (x : View E). point_at l x.spin) first.kept ∙ (ap (point_at l) (tail-seen l n (view_of a) high unset) ∙ ap (λ (b : LockHand). b.frame.point) (at-with l (spin_in a) (lock_hand_to Undoing (lock_hand_of l a))))

    pub tail-nodes : (d : Pass R O E C) → 256 ≤ n → (n / 256) % 2 ≡ 0 → RestsAt l (spin_in a) → SpinSteps site m d (undone l (view_of m)) → IsDepthTold a → KeepsNodes a d
    tail-nodes d high unset out t told = let s : SpinHand = saw_word (went l (spin_in a) Undoing) n ((view_of a).steps + 1) in
        let k = nodes-step a m s (steps-as a m (pended l n (view_of a)) s (tail-seen l n (view_of a) high unset) first) (same-depth l (spin_in a) (lock_hand_to Undoing (lock_hand_of l a)) (sym (ap uses out))) told in
        nodes-then a m d k (nodes-went l m d Out (sym (ap uses (tail-point high unset))) t k.told)

    -- it notes that it waits
    pub owns-told : (m' : Pass R O E C) → NotesLock l false true m m' → n < 256 → RestsAt l (spin_in a) → IsNestTold a → IsNestTold m'
    owns-told m' noted low out told = let w = waits-went l (Unit {0}) a m Pending (steps-as a m (pended l n (view_of a)) (went l (spin_in a) Pending) (owns-seen l n (view_of a) low) first) in
        told-noted l m m' false true noted (owns-nodes low out told.depth).told (others-on l a m w.flags (λ r apart. (w.others r apart).point) (others-told l a told)) (ap is_held (owns-point low)) (ap waits_at (owns-point low))

    pub owns-noted : (m' : Pass R O E C) → NotesLock l false true m m' → n < 256 → point_in l m' ≡ Pending
    owns-noted m' noted low = noted-point l m m' false true noted l ∙ owns-point low

    -- the owner has waited, and takes the lock
    module _ (quiet : Type 0) (d e : Pass R O E C) (low : n < 256) (w : SpinWaits l quiet site m d (lock_hand_to Taking (lock_hand_of l m))) (last : SpinSteps site d e (turned l (view_of d))) where
      set_pending : SpinWaits l quiet site a m (lock_hand_to Pending (lock_hand_of l a))
      set_pending = waits-went l quiet a m Pending (steps-as a m (pended l n (view_of a)) (went l (spin_in a) Pending) (owns-seen l n (view_of a) low) first)

      taking : point_in l d ≡ Taking
      taking = ap (λ (b : LockHand). b.frame.point) w.lock_hand

      has : lock_hand_of l e ≡ taken l (spin_in d) ((view_of d).steps + 1) Holding
      has = ap (λ (x : View E). lock_hand_at l x.spin) last.kept ∙ at-with l (spin_in d) (taken l (spin_in d) ((view_of d).steps + 1) Holding)

      pub pending-from : (lock_hand_of l e).from ≡ Taking
      pending-from = ap (λ (b : LockHand). b.from) has ∙ taking

      took : (lock_hand_of l e).took ≡ (view_of d).steps + 1
      took = ap (λ (b : LockHand). b.took) has

      pub pending-later : (view_of a).steps + 1 < (lock_hand_of l e).took
      pending-later = let x = set_pending.later in let y = w.later in let z = took in omega arith

      pub pending-nodes-all : RestsAt l (spin_in a) → IsDepthTold a → KeepsNodes m d → KeepsNodes a e
      pending-nodes-all out told mid = let k = nodes-then a m d (owns-nodes low out told) mid in
          nodes-then a d e k (nodes-step d e (turned l (view_of d)) last (same-depth l (spin_in d) (taken l (spin_in d) ((view_of d).steps + 1) Holding) (sym (ap uses taking))) k.told)

      pub pending-gained : LockGained l quiet (view_of a) (view_of e)
      pending-gained = let k = last.kept in let r = set_pending in record {
        hand = ap (λ (x : View E). x.hand) k ∙ (w.hand ∙ r.hand);
        fronts = ap (λ (x : View E). x.fronts) k ∙ (w.fronts ∙ r.fronts);
        ext = ap (λ (x : View E). x.ext) k ∙ (w.ext ∙ r.ext);
        holds = ap (λ (b : LockHand). b.frame.point) has;
        others = λ o apart. alike-then (lock_hand_of o a) (lock_hand_of o d) (lock_hand_of o e) (alike-then (lock_hand_of o a) (lock_hand_of o m) (lock_hand_of o d) (r.others o apart) (w.others o apart))
            (alike-same (lock_hand_of o d) (lock_hand_of o e) (ap (λ (x : View E). lock_hand_at o x.spin) k ∙ at-else l o (spin_in d) (taken l (spin_in d) ((view_of d).steps + 1) Holding) apart));
        more = let x = r.entries in let y = w.entries in let z = ap (λ (x : View E). x.spin.entries) k in omega (arith, x, y, z);
        counted = λ q. let x = (r.still q).1 in let y = (w.still q).1 in let z = ap (λ (x : View E). x.spin.entries) k in omega (arith, x, y, z);
        took = (let x = set_pending.later in let y = w.later in let z = took in omega arith, let z = took in let s = ap (λ (x : View E). x.steps) k in omega (arith, z, s));
      }
