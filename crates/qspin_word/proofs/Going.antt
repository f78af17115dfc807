-- A pass that made some steps, and then some more.
use Rattle.std.proofs.Common.{◌≡◌, ◌∙◌, ◌==◌, ◌<◌, ◌+◌, ℕ, eq-eqb, Bool, true, false, refl, sym, ap, subst, if◌then◌else◌}
use Rattle.lock_core.specs.Pasts.{FoundAt, FoundAtStep}
use Rattle.lock_core.specs.Laws.SiteRun.{found-at-step}
use Rattle.lock_core.specs.SiteHandles.{view_of, hand_in, past_of, SaysSame, KeepsPast, IsDepthTold, IsNestTold, NotesLock}
use Rattle.lock_core.specs.Nestings.{is_held, waits_at}
use Rattle.lock_core.specs.SpinFrames.{uses}
use Rattle.lock_core.specs.LockHands.{depth_of, lock_hand_at, point_at, RestsAt, HoldsAt, at-with, at-else}
use Rattle.qspin_word.specs.SpinWordHands.{taken, took_at, saw_word, tried, looked, freed}
use Rattle.qspin_word.specs.Ways.{lock_hand_to}
use Rattle.qspin_word.proofs.OwnNodes.{same-depth}
use Rattle.qspin_word.proofs.Noting.{flags-eq, flags-beside, others-told, others-on, told-on, told-noted}
use Rattle.qspin_word.specs.SpinWordHandles.{spin_in, point_in, SpinSteps, SpinGoesOn, FirstFoundFree}
use Rattle.qspin_word.specs.Types.{Pass, Site, SpinHand, View, LockHand, Out, Holding}

module _ {R O E C : Type 0} (site : Site R O E C) where
  pub stepped : (a b : Pass R O E C) (s : SpinHand) → SpinSteps site a b s → SpinGoesOn site a b
  stepped a b s t = record { own = t.own; face = t.face; goes_on = t.goes_on; last = t.last }

  pub goes-then : (a b d : Pass R O E C) → SaysSame a b → KeepsPast a b → SpinGoesOn site b d → SpinGoesOn site a d
  goes-then a b d face past t = record { own = t.own; face = t.face ∙ face; goes_on = λ p h. t.goes_on p (past p h); last = t.last }

  -- what its first step found, it found there
  pub first_found : (a b d : Pass R O E C) (s : SpinHand) (at : ℕ) → SpinSteps site a b s → FoundAt at 0 (past_of b) → KeepsPast b d → FirstFoundFree at a d
  first_found a b d s at t found on = subst (λ (n : ℕ). FoundAtStep (hand_in a).task n at 0 (past_of a) (past_of d)) (ap (λ v. v.steps) t.kept)
      (found-at-step (view_of b) (hand_in a).task at 0 (past_of a) (past_of b) (past_of d) (ap (λ v. v.hand.task) t.kept) t.last found t.goes_on on)

-- what a step leaves of how many nodes the pass uses
module _ {E : Type 0} (l : ℕ) (v : View E) where
  looked-depth : (b : Bool) (n : ℕ) → depth_of (if b then v.spin else saw_word v.spin n (v.steps + 1)) ≡ depth_of v.spin
  looked-depth true n = refl
  looked-depth false n = refl

  tried-depth : (b : Bool) (n : ℕ) → RestsAt l v.spin → depth_of (if b then took_at l v.spin (v.steps + 1) Holding else saw_word v.spin n (v.steps + 1)) ≡ depth_of v.spin
  tried-depth true n out = same-depth l v.spin (taken l v.spin (v.steps + 1) Holding) (sym (ap uses out))
  tried-depth false n out = refl

  looked-points : (b : Bool) (n m : ℕ) → point_at m (if b then v.spin else saw_word v.spin n (v.steps + 1)) ≡ point_at m v.spin
  looked-points true n m = refl
  looked-points false n m = refl

  looked-rests : (b : Bool) (n : ℕ) → RestsAt l v.spin → RestsAt l (if b then v.spin else saw_word v.spin n (v.steps + 1))
  looked-rests true n out = out
  looked-rests false n out = out

module _ {R O E C : Type 0} where
  pub depth-step : (a b : Pass R O E C) (site : Site R O E C) (s : SpinHand) → SpinSteps site a b s → depth_of s ≡ depth_of (spin_in a) → IsDepthTold a → IsDepthTold b
  depth-step a b site s t same told = ap (λ n. n.depth) t.nest ∙ (told ∙ (sym same ∙ sym (ap (λ (x : View E). depth_of x.spin) t.kept)))

  -- what it notes of the locks is so after a load, after a try that took the lock and a note of it, and after a release
  pub looks-told : (l : ℕ) (a b : Pass R O E C) (n : ℕ) (site : Site R O E C) → l < 8 → SpinSteps site a b (looked l n (view_of a)) → IsNestTold a → IsNestTold b
  looks-told l a b n site few t told = let p : (m : ℕ) → point_in m b ≡ point_in m a = λ m. ap (λ (x : View E). point_at m x.spin) t.kept ∙ looked-points l (view_of a) (n == 0) n m in
      told-on l a b few (flags-eq a.nest b.nest t.nest) (λ m apart. p m) (ap is_held (p l)) (ap waits_at (p l)) (depth-step a b site (looked l n (view_of a)) t (looked-depth l (view_of a) (n == 0) n) told.depth) told

  pub takes-told : (l : ℕ) (a b b' : Pass R O E C) (n : ℕ) → RestsAt l (spin_in a) → (site : Site R O E C) → SpinSteps site a b (tried l n (view_of a)) → NotesLock l true false b b' → n ≡ 0 → IsNestTold a → IsNestTold b'
  takes-told l a b b' n out site t noted free told = let s : SpinHand = took_at l (spin_in a) ((view_of a).steps + 1) Holding in
      let is : spin_in b ≡ s = ap (λ (x : View E). x.spin) t.kept ∙ ap (λ (b : Bool). if b then s else saw_word (spin_in a) n ((view_of a).steps + 1)) (eq-eqb n 0 free) in
      let held : point_in l b ≡ Holding = ap (λ (x : SpinHand). point_at l x) is ∙ ap (λ (x : LockHand). x.frame.point) (at-with l (spin_in a) (taken l (spin_in a) ((view_of a).steps + 1) Holding)) in
      told-noted l b b' true false noted (depth-step a b site (tried l n (view_of a)) t (tried-depth l (view_of a) (n == 0) n out) told.depth)
      (others-on l a b (flags-beside l a.nest b.nest (flags-eq a.nest b.nest t.nest)) (λ m apart. ap (λ (x : SpinHand). point_at m x) is ∙ ap (λ (x : LockHand). x.frame.point) (at-else l m (spin_in a) (taken l (spin_in a) ((view_of a).steps + 1) Holding) apart)) (others-told l a told))
      (ap is_held held) (ap waits_at held)

  pub tries-told : (l : ℕ) (a b d d' : Pass R O E C) (n m : ℕ) → RestsAt l (spin_in a) → l < 8 → (site : Site R O E C) → SpinSteps site a b (looked l n (view_of a)) → SpinSteps site b d (tried l m (view_of b)) → NotesLock l true false d d' → m ≡ 0 → IsNestTold a → IsNestTold d'
  tries-told l a b d d' n m out few site first second noted free told = takes-told l b d d' m (ap (λ (x : View E). point_at l x.spin) first.kept ∙ looked-rests l (view_of a) (n == 0) n out) site second noted free (looks-told l a b n site few first told)

  pub frees-told : (l : ℕ) (a b b' : Pass R O E C) → HoldsAt l (spin_in a) → (site : Site R O E C) → SpinSteps site a b (freed l (view_of a)) → NotesLock l false false b b' → IsNestTold a → IsNestTold b'
  frees-told l a b b' held site t noted told = let o : LockHand = lock_hand_to Out (lock_hand_at l (spin_in a)) in
      let out : point_in l b ≡ Out = ap (λ (x : View E). point_at l x.spin) t.kept ∙ ap (λ (x : LockHand). x.frame.point) (at-with l (spin_in a) o) in
      told-noted l b b' false false noted (depth-step a b site (freed l (view_of a)) t (same-depth l (spin_in a) o (sym (ap uses held))) told.depth)
      (others-on l a b (flags-beside l a.nest b.nest (flags-eq a.nest b.nest t.nest)) (λ m apart. ap (λ (x : View E). point_at m x.spin) t.kept ∙ ap (λ (x : LockHand). x.frame.point) (at-else l m (spin_in a) o apart)) (others-told l a told))
      (ap is_held out) (ap waits_at out)
