-- Calls that are done while another call of the pass waits.
use Rattle.std.proofs.Common.{◌≡◌, ◌≢◌, ℕ, true, false, IsSome, refl, sym, ap, ◌∙◌, subst, arith}
use Rattle.lock_core.specs.LockHands.{lock_hand_at, depth_of}
use Rattle.lock_core.specs.Spins.{spun}
use Rattle.lock_core.specs.SiteHandles.{view_of, task_in, SitsAt, IsNestTold}
use Rattle.lock_core.specs.Nestings.{waits_at, pauses_at}
use Rattle.qspin_word.specs.Ways.{AreAlike, HitLeaves}
use Rattle.qspin_word.proofs.Noting.{flags-eq, flags-then, flags-beside, beside-then, told-same}
use Rattle.qspin_word.specs.SpinWordHandles.{spin_in, lock_hand_of, point_in, IsInterruptible, SpinSteps, SpinWaits, SpinIdles}
use Rattle.qspin_word.specs.Types.{Pass, Face, Site, View, LockHand, SpinHand}

pub alike-self : (b : LockHand) → AreAlike b b
alike-self b = record { point = refl; stays = λ _. refl }

pub alike-same : (b c : LockHand) → c ≡ b → AreAlike b c
alike-same b c e = record { point = ap (λ (x : LockHand). x.frame.point) e; stays = λ _. e }

pub alike-then : (a b c : LockHand) → AreAlike a b → AreAlike b c → AreAlike a c
alike-then a b c r s = record { point = s.point ∙ r.point; stays = λ n. s.stays (λ e. n (sym r.point ∙ e)) ∙ r.stays n }

module _ {E : Type 0} where
  pub leaves-self : (v : View E) → HitLeaves v v
  leaves-self v = record { hand = refl; fronts = refl; ext = refl; alike = λ l. alike-self (lock_hand_at l v.spin); depth = refl; entries = omega arith; later = omega arith }

  pub leaves-then : (v u w : View E) → HitLeaves v u → HitLeaves u w → HitLeaves v w
  leaves-then v u w r s = record {
    hand = s.hand ∙ r.hand;
    fronts = s.fronts ∙ r.fronts;
    ext = s.ext ∙ r.ext;
    alike = λ l. alike-then (lock_hand_at l v.spin) (lock_hand_at l u.spin) (lock_hand_at l w.spin) (r.alike l) (s.alike l);
    depth = s.depth ∙ r.depth;
    entries = let a = r.entries in let b = s.entries in omega arith;
    later = let a = r.later in let b = s.later in omega arith;
  }

  -- a step that leaves the spin part
  pub leaves-look : (v u : View E) → u ≡ spun v v.spin → HitLeaves v u
  leaves-look v u e = record {
    hand = ap (λ (x : View E). x.hand) e;
    fronts = ap (λ (x : View E). x.fronts) e;
    ext = ap (λ (x : View E). x.ext) e;
    alike = λ l. alike-same (lock_hand_at l v.spin) (lock_hand_at l u.spin) (ap (λ (x : View E). lock_hand_at l x.spin) e);
    depth = ap (λ (x : View E). depth_of x.spin) e;
    entries = let n = ap (λ (x : View E). x.spin.entries) e in omega (arith, n);
    later = let n = ap (λ (x : View E). x.steps) e in omega (arith, n);
  }

module _ {R O E C : Type 0} (quiet : Type 0) (site : Site R O E C) where
  pub idles-self : (a : Pass R O E C) → SitsAt site a → IsNestTold a → SpinIdles quiet site a a
  idles-self a own told = record { own = own; face = refl; goes_on = λ p h. h; told = told; flags = flags-eq a.nest a.nest refl; leaves = leaves-self (view_of a); still = λ _. (refl, refl) }

  pub idles-then : (a b d : Pass R O E C) → SpinIdles quiet site a b → SpinIdles quiet site b d → SpinIdles quiet site a d
  idles-then a b d r s = record {
    own = s.own;
    face = s.face ∙ r.face;
    goes_on = λ p h. s.goes_on p (r.goes_on p h);
    told = s.told;
    flags = flags-then a.nest b.nest d.nest r.flags s.flags;
    leaves = leaves-then (view_of a) (view_of b) (view_of d) r.leaves s.leaves;
    still = λ q. let x = r.still q in let y = s.still q in (y.0 ∙ x.0, y.1 ∙ x.1);
  }

  pub idles-look : (a b : Pass R O E C) (s : SpinHand) → IsNestTold a → SpinSteps site a b s → s ≡ spin_in a → SpinIdles quiet site a b
  idles-look a b s told t same = let e = t.kept ∙ ap (spun (view_of a)) same in record {
    own = t.own;
    face = t.face;
    goes_on = t.goes_on;
    told = told-same a b t.nest (ap (λ (x : View E). x.spin) e) told;
    flags = flags-eq a.nest b.nest t.nest;
    leaves = leaves-look (view_of a) (view_of b) e;
    still = λ _. (ap (λ (x : View E). x.spin.saw) e, ap (λ (x : View E). x.spin.entries) e);
  }

  -- one step at the lock
  pub waits-once : (l : ℕ) (a d : Pass R O E C) (s : SpinHand) (b : LockHand) → SpinSteps site a d s → lock_hand_at l s ≡ b → ((m : ℕ) → m ≢ l → lock_hand_at m s ≡ lock_hand_of m a) → s.saw ≡ (spin_in a).saw → s.entries ≡ (spin_in a).entries → SpinWaits l quiet site a d b
  waits-once l a d s b t here elsewhere saw entries = let e = t.kept in record {
    own = t.own;
    face = t.face;
    goes_on = t.goes_on;
    last = t.last;
    hand = ap (λ (x : View E). x.hand) e;
    fronts = ap (λ (x : View E). x.fronts) e;
    ext = ap (λ (x : View E). x.ext) e;
    lock_hand = ap (λ (x : View E). lock_hand_at l x.spin) e ∙ here;
    others = λ m apart. alike-same (lock_hand_of m a) (lock_hand_of m d) (ap (λ (x : View E). lock_hand_at m x.spin) e ∙ elsewhere m apart);
    entries = let n = ap (λ (x : View E). x.spin.entries) e in omega (arith, n, entries);
    later = let n = ap (λ (x : View E). x.steps) e in omega (arith, n);
    flags = flags-beside l a.nest d.nest (flags-eq a.nest d.nest t.nest);
    still = λ _. (ap (λ (x : View E). x.spin.saw) e ∙ saw, ap (λ (x : View E). x.spin.entries) e ∙ entries);
  }

  -- calls within, and then some steps
  pub waits-after : (l : ℕ) (a d e : Pass R O E C) (b : LockHand) → SpinIdles quiet site a d → SpinWaits l quiet site d e b → SpinWaits l quiet site a e b
  waits-after l a d e b r s = record {
    own = s.own;
    face = s.face ∙ r.face;
    goes_on = λ p h. s.goes_on p (r.goes_on p h);
    last = s.last;
    hand = s.hand ∙ r.leaves.hand;
    fronts = s.fronts ∙ r.leaves.fronts;
    ext = s.ext ∙ r.leaves.ext;
    lock_hand = s.lock_hand;
    others = λ m apart. alike-then (lock_hand_of m a) (lock_hand_of m d) (lock_hand_of m e) (r.leaves.alike m) (s.others m apart);
    entries = let x = r.leaves.entries in let y = s.entries in omega arith;
    later = let x = r.leaves.later in let y = s.later in omega arith;
    flags = beside-then l a.nest d.nest e.nest (flags-beside l a.nest d.nest r.flags) s.flags;
    still = λ q. let x = r.still q in let y = s.still q in (y.0 ∙ x.0, y.1 ∙ x.1);
  }

  -- some steps, and then some more
  pub waits-then : (l : ℕ) (a d e : Pass R O E C) (b b' : LockHand) → SpinWaits l quiet site a d b → SpinWaits l quiet site d e b' → SpinWaits l quiet site a e b'
  waits-then l a d e b b' r s = record {
    own = s.own;
    face = s.face ∙ r.face;
    goes_on = λ p h. s.goes_on p (r.goes_on p h);
    last = s.last;
    hand = s.hand ∙ r.hand;
    fronts = s.fronts ∙ r.fronts;
    ext = s.ext ∙ r.ext;
    lock_hand = s.lock_hand;
    others = λ m apart. alike-then (lock_hand_of m a) (lock_hand_of m d) (lock_hand_of m e) (r.others m apart) (s.others m apart);
    entries = let x = r.entries in let y = s.entries in omega arith;
    later = let x = r.later in let y = s.later in omega arith;
    flags = beside-then l a.nest d.nest e.nest r.flags s.flags;
    still = λ q. let x = r.still q in let y = s.still q in (y.0 ∙ x.0, y.1 ∙ x.1);
  }

  -- a call that waits is where it was
  pub idles-lock-hand : (l : ℕ) (a d : Pass R O E C) → SpinIdles quiet site a d → waits_at (point_in l a) ≡ true → lock_hand_of l d ≡ lock_hand_of l a
  idles-lock-hand l a d r w = (r.leaves.alike l).stays (λ out. let z : false ≡ true = ap waits_at (sym out) ∙ w in cc)

  -- so it may be interrupted
  pub idles-ready : (l : ℕ) (a d : Pass R O E C) → IsSome (task_in a) → pauses_at (point_in l a) ≡ true → waits_at (point_in l a) ≡ true → SpinIdles quiet site a d → IsInterruptible site d
  idles-ready l a d numbered p w r = record {
    notes = record { own = r.own; numbered = subst (λ (f : Face). IsSome f.task) (sym r.face) numbered; told = r.told };
    pauses = (l, ap (λ (b : LockHand). pauses_at b.frame.point) (idles-lock-hand l a d r w) ∙ p);
  }

  -- and behind a look that ends no wait
  pub look-ready : (l : ℕ) (a d e : Pass R O E C) (s : SpinHand) → IsSome (task_in a) → pauses_at (point_in l a) ≡ true → waits_at (point_in l a) ≡ true → SpinIdles quiet site a d → SpinSteps site d e s → s ≡ spin_in d → IsInterruptible site e
  look-ready l a d e s numbered p w r t same = idles-ready l a e numbered p w (idles-then a d e r (idles-look d e s r.told t same))
