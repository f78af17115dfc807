-- A call that takes a lock at which its pass was at no point, and releases it, is what an interrupt may do. And what a pass notes of the locks, through the calls of its site.
use Rattle.std.proofs.Common.{◌≡◌, ◌≢◌, ℕ, sym, ap, ◌∙◌, subst, arith}
use mathlib.Core.Logic.{dite}
use native.Mathlib.Decide.{ℕ_discrete}
use Rattle.qspin_queue.specs.Types.{Pass, Site, View, LockHand, SpinHand, Nesting, Out}
use Rattle.lock_core.specs.LockHands.{lock_hand_at, frame_at, point_at, depth_of, RestsAt, RestsEverywhere, at-with, at-else}
use Rattle.lock_core.specs.Nestings.{Tells}
use Rattle.lock_core.specs.SpinFrames.{uses}
use Rattle.lock_core.specs.Spins.{spun}
use Rattle.lock_core.specs.Views.{forgot}
use Rattle.lock_core.specs.SiteHandles.{view_of, SitsAt, SaysSame, KeepsPast, IsNestTold}
use Rattle.qspin_word.specs.SpinWordHands.{at_point, freed}
use Rattle.qspin_word.specs.Ways.{AreAlike, LockGained}
use Rattle.qspin_word.specs.SpinWordHandles.{spin_in, point_in, lock_hand_of, SpinIdles}
use Rattle.qspin_word.proofs.Idling.{alike-same, alike-then}
use Rattle.qspin_word.proofs.Noting.{flags-told}
use Rattle.qspin_word.proofs.OwnNodes.{same-depth}

module _ {R O E C : Type 0} (l : ℕ) (quiet : Type 0) (a b d : Pass R O E C) (out : RestsAt l (spin_in a)) (g : LockGained l quiet (view_of a) (view_of b)) (kept : view_of d ≡ spun (view_of b) (freed l (view_of b))) where
  abbrev left : LockHand
  left = record (lock_hand_of l b) { frame = at_point (frame_at l (spin_in b)) Out }

  here : AreAlike (lock_hand_of l a) (lock_hand_of l d)
  here = record {
    point = ap (λ (x : View E). (lock_hand_at l x.spin).frame.point) kept ∙ (ap (λ (x : LockHand). x.frame.point) (at-with l (spin_in b) left) ∙ sym out);
    stays = λ held. absurd (held out);
  }

  elsewhere : (m : ℕ) → m ≢ l → AreAlike (lock_hand_of m a) (lock_hand_of m d)
  elsewhere m apart = alike-then (lock_hand_of m a) (lock_hand_of m b) (lock_hand_of m d) (g.others m apart) (alike-same (lock_hand_of m b) (lock_hand_of m d) (ap (λ (x : View E). lock_hand_at m x.spin) kept ∙ at-else l m (spin_in b) left apart))

  pub taken-alike : (m : ℕ) → AreAlike (lock_hand_of m a) (lock_hand_of m d)
  taken-alike m = dite (ℕ_discrete m l) (λ e. subst (λ (r : ℕ). AreAlike (lock_hand_of r a) (lock_hand_of r d)) (sym e) here) (elsewhere m)

  -- what the interrupt says of itself is that it isn't silent
  pub taken-idles : (site : Site R O E C) → IsNestTold a → SitsAt site d → SaysSame a b → SaysSame b d → KeepsPast a b → KeepsPast b d → IsNestTold d → depth_of (spin_in b) ≡ depth_of (spin_in a) → SpinIdles ⊥ site a d
  taken-idles site told own face face' past past' told' nodes = record {
    own = own;
    face = face' ∙ face;
    goes_on = λ p t. past' p (past p t);
    told = told';
    flags = flags-told a.nest d.nest (spin_in a) (spin_in d) told told' (λ m. (taken-alike m).point);
    leaves = record {
      hand = ap (λ (x : View E). x.hand) kept ∙ g.hand;
      fronts = ap (λ (x : View E). x.fronts) kept ∙ g.fronts;
      ext = ap (λ (x : View E). x.ext) kept ∙ g.ext;
      alike = taken-alike;
      depth = ap (λ (x : View E). depth_of x.spin) kept ∙ (same-depth l (spin_in b) left (sym (ap uses g.holds)) ∙ nodes);
      entries = let more = g.more in let e = ap (λ (x : View E). x.spin.entries) kept in omega (arith, more, e);
      later = let took = g.took.0 in let by = g.took.1 in let e = ap (λ (x : View E). x.steps) kept in omega (arith, took, by, e);
    };
    still = λ q. absurd q;
  }

module _ {R O E C : Type 0} where
  -- a pass that takes a number forgets what it saw, and nothing else of the locks
  pub told-forgot : (a b : Pass R O E C) → b.nest ≡ a.nest → spin_in b ≡ forgot (spin_in a) → IsNestTold a → IsNestTold b
  told-forgot a b nest spin told = let t : Tells a.nest (forgot (spin_in a)) = record { depth = told.depth; at = told.at } in subst (λ (n : Nesting). Tells n (spin_in b)) (sym nest) (subst (Tells a.nest) (sym spin) t)

  pub out-forgot : (a b : Pass R O E C) → spin_in b ≡ forgot (spin_in a) → RestsEverywhere (spin_in a) → RestsEverywhere (spin_in b)
  out-forgot a b spin out l = ap (λ (s : SpinHand). point_at l s) spin ∙ out l

  -- it is where it was at each lock
  pub out-same : (a b : Pass R O E C) → spin_in b ≡ spin_in a → RestsEverywhere (spin_in a) → RestsEverywhere (spin_in b)
  out-same a b spin out l = ap (λ (s : SpinHand). point_at l s) spin ∙ out l

  pub out-alike : (a b : Pass R O E C) → ((l : ℕ) → AreAlike (lock_hand_of l a) (lock_hand_of l b)) → RestsEverywhere (spin_in a) → RestsEverywhere (spin_in b)
  out-alike a b alike out l = (alike l).point ∙ out l

  -- a release leaves it outside the lock, and where it was with every other one
  pub freed-here : (l : ℕ) (b d : Pass R O E C) → view_of d ≡ spun (view_of b) (freed l (view_of b)) → RestsAt l (spin_in d)
  freed-here l b d kept = ap (λ (x : View E). point_at l x.spin) kept ∙ ap (λ (x : LockHand). x.frame.point) (at-with l (spin_in b) (record (lock_hand_of l b) { frame = at_point (frame_at l (spin_in b)) Out }))

  pub freed-else : (l m : ℕ) (b d : Pass R O E C) → m ≢ l → view_of d ≡ spun (view_of b) (freed l (view_of b)) → point_in m d ≡ point_in m b
  freed-else l m b d apart kept = ap (λ (x : View E). point_at m x.spin) kept ∙ ap (λ (x : LockHand). x.frame.point) (at-else l m (spin_in b) (record (lock_hand_of l b) { frame = at_point (frame_at l (spin_in b)) Out }) apart)
