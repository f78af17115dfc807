-- What a call of the site makes of a pass of the lock.
use Rattle.std.proofs.Common.{◌≡◌, ◌∙◌, ℕ, ◌+◌, ◌<◌, sym, ap, subst, arith}
use Rattle.lock_core.specs.declared.pass.Pass.{Pass}
use Rattle.std.specs.Prelude.{Option, Some, None, IfSome, IfNone}
use Rattle.lock_core.specs.SiteHandles.{view_of, hand_in, past_of, KeepsPast, SawNonePending}
use Rattle.lock_core.specs.Locking.{Has, HasSince}
use Rattle.lock_core.specs.Pasts.{FoundAt, GoesOn}
use Rattle.lock_core.specs.SitePasses.{Consumes}
use Rattle.lock_core.specs.Shown.{Shown, AllButHand, PastGoesOn}
use Rattle.lock_core.specs.Views.{Beside, note_steps}
use Rattle.lock_core.specs.Faces.{IsFace, Follows, KeepsHold}
use Rattle.lock_core.specs.Types.{Reply, Busy, Intr, Sent, Good, Num, Refused, MapErr, AccErr, Hand, Interrupted}

-- a note takes a step at least
pub note-moves : (reply : Reply) → 0 < note_steps reply
note-moves (Busy word) = omega arith
note-moves Intr = omega arith
note-moves Sent = omega arith
note-moves Good = omega arith
note-moves (Num n) = omega arith
note-moves (Refused e) = omega arith
note-moves MapErr = omega arith
note-moves AccErr = omega arith

module _ {R O E C : Type 0} (old new : Pass R O E C) where
  -- a look for a signal leaves all but the hand, and in that the number and the hold
  pub heard : (r : Option Interrupted) → IfSome r (λ why. Consumes why (view_of old) (view_of new)) → IfNone r (SawNonePending old new) → Beside (view_of old) (view_of new) × KeepsHold old new
  heard (Some why) some none = let is = some.now in ((ap (λ v. v.spin) is, ap (λ v. v.fronts) is, ap (λ v. v.ext) is, let counted = ap (λ v. v.steps) is in omega (arith, counted)), (ap (λ v. v.hand.task) is, ap (λ v. v.hand.held) is, ap (λ v. v.hand.freed) is))
  heard None some none = let is = none.1.now in ((ap (λ v. v.spin) is, ap (λ v. v.fronts) is, ap (λ v. v.ext) is, let counted = ap (λ v. v.steps) is in omega (arith, counted)), (ap (λ v. v.hand.task) is, ap (λ v. v.hand.held) is, ap (λ v. v.hand.freed) is))

  pub goes-on : (v u : Shown) → IsFace old v → Follows new v u → KeepsPast old new → PastGoesOn v u
  goes-on v u a b goes = subst (λ q. GoesOn q u.past) (sym a.past) (subst (λ q. GoesOn (past_of old) q) (sym b.face.past) goes)

  -- beside the hand, what it shows is as it was
  pub all-but-hand : (v u : Shown) → IsFace old v → Follows new v u → Beside (view_of old) (view_of new) → AllButHand v u
  all-but-hand v u a b beside = (ap (λ s. s.entries) (b.face.spin ∙ (beside.0 ∙ sym a.spin)), b.fronts, b.line, (let moved = beside.3 in let before = a.steps in let after = b.face.steps in omega (arith, moved, before, after)), b.swaps, b.tally)

  -- a hand that the call made of the one before
  pub has : (v u : Shown) (f : Hand → Hand) (n : ℕ) → IsFace old v → Follows new v u → view_of new ≡ record (view_of old) { hand = f (hand_in old); steps = (view_of old).steps + n } → Has (f v.hand) v u
  has v u f n a b is = (b.face.hand ∙ (ap (λ w. w.hand) is ∙ ap f (sym a.hand)), (ap (λ s. s.entries) (b.face.spin ∙ (ap (λ w. w.spin) is ∙ sym a.spin)), b.fronts, b.line, (let counted = ap (λ w. w.steps) is in let before = a.steps in let after = b.face.steps in omega (arith, counted, before, after)), b.swaps, b.tally))

  -- one that tells the number of its last step
  pub has-since : (v u : Shown) (f : ℕ → Hand → Hand) (n : ℕ) → 0 < n → IsFace old v → Follows new v u → view_of new ≡ record (view_of old) { hand = f ((view_of old).steps + n) (hand_in old); steps = (view_of old).steps + n } → HasSince (λ step. f step v.hand) v u
  has-since v u f n some a b is = let counted = ap (λ w. w.steps) is in let before = a.steps in let after = b.face.steps in
      ((view_of old).steps + n, omega (arith, some, before), omega (arith, counted, after), has v u (f ((view_of old).steps + n)) n a b is)

  -- what its last step found
  pub found-at : (v u : Shown) (at n : ℕ) → Follows new v u → FoundAt at n (past_of new) → FoundAt at n u.past
  found-at v u at n b found = subst (λ q. FoundAt at n q) (sym b.face.past) found
