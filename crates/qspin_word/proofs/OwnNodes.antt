-- The nodes of a pass after a step of its own.
use Rattle.std.proofs.Common.{◌≡◌, ℕ, ◌≤◌, true, false, sym, ap, ◌∙◌, subst, arith}
use mathlib.Core.Logic.{dite}
use native.Mathlib.Decide.{ℕ_discrete}
use Rattle.qspin_word.specs.Types.{SpinHand, LockHand}
use Rattle.lock_core.specs.Records.{bit}
use Rattle.lock_core.specs.Views.{SpinPart}
use Rattle.lock_core.specs.SpinFrames.{uses}
use Rattle.lock_core.specs.LockHands.{frame_at, point_at, depth_of, with_lock_hand, depth-with, at-with, at-else}
use Rattle.lock_core.specs.Spins.{OwnNodes}

-- at no other lock does it use a node that it didn't
abbrev pub UsesNoMore : SpinHand → SpinHand → Type 0
UsesNoMore s g = (m : ℕ) → uses (point_at m g) ≡ true → (uses (point_at m s) ≡ true) × ((frame_at m g).code ≡ (frame_at m s).code)

pub own-still : (p : SpinPart) (g : SpinHand) → UsesNoMore p.spin g → depth_of p.spin ≤ depth_of g → OwnNodes p → OwnNodes (record p { spin = g })
own-still p g same deep o = record {
  node = λ m used. let t = same m used in let n = o.node m t.0 in record { task = n.task; index = n.index; named = n.named; four = n.four; below = (let b = n.below in omega (arith, b, deep)); is = t.1 ∙ n.is };
  apart = λ m r used used' e. let t = same m used in let u = same r used' in o.apart m r t.0 u.0 (sym t.1 ∙ (e ∙ u.1));
}

-- a step that changes what a pass has to do with one lock
module _ (l : ℕ) (s : SpinHand) (b : LockHand) where
  pub no-more : (uses b.frame.point ≡ true → (uses (point_at l s) ≡ true) × (b.frame.code ≡ (frame_at l s).code)) → UsesNoMore s (with_lock_hand l s b)
  no-more mine m used = dite (ℕ_discrete m l)
      (λ e. subst (λ (r : ℕ). uses (point_at r (with_lock_hand l s b)) ≡ true → (uses (point_at r s) ≡ true) × ((frame_at r (with_lock_hand l s b)).code ≡ (frame_at r s).code)) (sym e)
      (λ here. let t = mine (ap (λ (x : LockHand). uses x.frame.point) (sym (at-with l s b)) ∙ here) in (t.0, ap (λ (x : LockHand). x.frame.code) (at-with l s b) ∙ t.1)) used)
      (λ apart. let e = at-else l m s b apart in (ap (λ (x : LockHand). uses x.frame.point) (sym e) ∙ used, ap (λ (x : LockHand). x.frame.code) e))

  pub same-depth : uses b.frame.point ≡ uses (point_at l s) → depth_of (with_lock_hand l s b) ≡ depth_of s
  same-depth e = let d = depth-with l s b in let z = ap bit e in omega (arith, d, z)

-- it uses no node at this lock, neither before nor after
pub own-word : (l : ℕ) (p : SpinPart) (b : LockHand) → uses (point_at l p.spin) ≡ false → uses b.frame.point ≡ false → OwnNodes p → OwnNodes (record p { spin = with_lock_hand l p.spin b })
own-word l p b before after o = own-still p (with_lock_hand l p.spin b) (no-more l p.spin b (λ used. let no : false ≡ true = sym after ∙ used in absurd cc)) (let e = same-depth l p.spin b (after ∙ sym before) in omega (arith, e)) o

-- it uses the same node before and after
pub own-node : (l : ℕ) (p : SpinPart) (b : LockHand) → uses (point_at l p.spin) ≡ true → uses b.frame.point ≡ true → b.frame.code ≡ (frame_at l p.spin).code → OwnNodes p → OwnNodes (record p { spin = with_lock_hand l p.spin b })
own-node l p b before after code o = own-still p (with_lock_hand l p.spin b) (no-more l p.spin b (λ _. (before, code))) (let e = same-depth l p.spin b (after ∙ sym before) in omega (arith, e)) o
