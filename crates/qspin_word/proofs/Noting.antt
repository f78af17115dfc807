-- What a pass notes of the locks, through its steps and its notes.
use Rattle.std.proofs.Common.{◌≡◌, ◌≢◌, ℕ, ◌<◌, Bool, sym, ap, ◌∙◌, subst}
use mathlib.Core.Logic.{dite}
use native.Mathlib.Decide.{ℕ_discrete}
use Rattle.lock_core.specs.LockHands.{frame_at, point_at, depth_of, RestsAt}
use Rattle.lock_core.specs.Nestings.{is_held, waits_at, notes_held, notes_wait, SameFlags, SameFlagsBeside, TellsAt, Tells}
use Rattle.lock_core.specs.SiteHandles.{view_of, KeepsPast, NotesLock, IsDepthTold, IsNestTold, past_of}
use Rattle.qspin_word.specs.Ways.{LockRefused}
use Rattle.lock_core.specs.Pasts.{GoesOn}
use Rattle.qspin_word.specs.SpinWordHandles.{spin_in, point_in, lock_hand_of, IsSameBut, SpinWaits, KeepsNodes}
use Rattle.qspin_word.specs.Types.{Pass, Nesting, SpinHand, Site, LockHand}

pub flags-eq : (n n' : Nesting) → n' ≡ n → SameFlags n n'
flags-eq n n' e m few = (ap (notes_held m) e, ap (notes_wait m) e)

pub flags-then : (a b c : Nesting) → SameFlags a b → SameFlags b c → SameFlags a c
flags-then a b c r s m few = ((s m few).0 ∙ (r m few).0, (s m few).1 ∙ (r m few).1)

pub flags-beside : (l : ℕ) (a b : Nesting) → SameFlags a b → SameFlagsBeside l a b
flags-beside l a b r m few apart = r m few

pub beside-then : (l : ℕ) (a b c : Nesting) → SameFlagsBeside l a b → SameFlagsBeside l b c → SameFlagsBeside l a c
beside-then l a b c r s m few apart = ((s m few apart).0 ∙ (r m few apart).0, (s m few apart).1 ∙ (r m few apart).1)

-- who notes how it stands with each lock, and is where it was, notes the same
pub flags-told : (n n' : Nesting) (s s' : SpinHand) → Tells n s → Tells n' s' → ((m : ℕ) → point_at m s' ≡ point_at m s) → SameFlags n n'
flags-told n n' s s' told told' same m few = let t = told.at m few in let t' = told'.at m few in (t'.0 ∙ (ap is_held (same m) ∙ sym t.0), t'.1 ∙ (ap waits_at (same m) ∙ sym t.1))

module _ {R O E C : Type 0} where
  -- what it notes of the locks is no part of its past
  pub same-past : (a b : Pass R O E C) → IsSameBut a b → KeepsPast a b
  same-past a b n = subst (λ s. GoesOn (past_of a) s.me.0.past) (sym n.seat) (λ p t. t)

  -- it notes the same, and knows the same of the locks
  pub told-same : (a b : Pass R O E C) → b.nest ≡ a.nest → spin_in b ≡ spin_in a → IsNestTold a → IsNestTold b
  told-same a b nest same told = subst (λ (n : Nesting). Tells n (spin_in b)) (sym nest) (subst (Tells a.nest) (sym same) told)

  -- it notes the same, and is where it was at each lock
  pub told-points : (a b : Pass R O E C) → SameFlags a.nest b.nest → ((m : ℕ) → point_in m b ≡ point_in m a) → IsDepthTold b → IsNestTold a → IsNestTold b
  told-points a b same points depth told = record { depth = depth; at = λ m few. let t = told.at m few in let s = same m few in (s.0 ∙ (t.0 ∙ sym (ap is_held (points m))), s.1 ∙ (t.1 ∙ sym (ap waits_at (points m)))) }

module _ {R O E C : Type 0} (l : ℕ) where
  -- what it notes of each lock but this one is so
  abbrev pub TellsOthers : Pass R O E C → Type 0
  TellsOthers a = (m : ℕ) → m < 8 → m ≢ l → TellsAt m a.nest (spin_in a)

  pub others-told : (a : Pass R O E C) → IsNestTold a → TellsOthers a
  others-told a told m few apart = told.at m few

  pub others-on : (a b : Pass R O E C) → SameFlagsBeside l a.nest b.nest → ((m : ℕ) → m ≢ l → point_in m b ≡ point_in m a) → TellsOthers a → TellsOthers b
  others-on a b same points told m few apart = let t = told m few apart in let s = same m few apart in let p = points m apart in (s.0 ∙ (t.0 ∙ sym (ap is_held p)), s.1 ∙ (t.1 ∙ sym (ap waits_at p)))

  -- so is what it notes of this one
  pub told-whole : (a : Pass R O E C) → IsDepthTold a → TellsOthers a → TellsAt l a.nest (spin_in a) → IsNestTold a
  told-whole a depth others here = record { depth = depth; at = λ m few. dite (ℕ_discrete m l) (λ e. subst (λ (r : ℕ). TellsAt r a.nest (spin_in a)) (sym e) here) (λ apart. others m few apart) }

  -- it goes on, and neither comes to wait for this lock nor to hold it
  pub told-on : (a b : Pass R O E C) → l < 8 → SameFlags a.nest b.nest → ((m : ℕ) → m ≢ l → point_in m b ≡ point_in m a) → is_held (point_in l b) ≡ is_held (point_in l a) → waits_at (point_in l b) ≡ waits_at (point_in l a) → IsDepthTold b → IsNestTold a → IsNestTold b
  told-on a b few same points held waits depth told = let t = told.at l few in told-whole b depth (others-on a b (flags-beside l a.nest b.nest same) points (others-told a told)) ((same l few).0 ∙ (t.0 ∙ sym held), (same l few).1 ∙ (t.1 ∙ sym waits))

  -- it notes how it stands with this one
  pub told-noted : (a b : Pass R O E C) (h w : Bool) → NotesLock l h w a b → IsDepthTold a → TellsOthers a → is_held (point_in l a) ≡ h → waits_at (point_in l a) ≡ w → IsNestTold b
  told-noted a b h w n depth others held waits = let same : (m : ℕ) → point_in m b ≡ point_in m a = λ m. ap (λ s. point_at m s.me.0.view.spin) n.seat in
      told-whole b (n.depth ∙ (depth ∙ sym (ap (λ s. depth_of s.me.0.view.spin) n.seat))) (others-on a b n.flags (λ m apart. same m) others) (n.held ∙ (sym held ∙ sym (ap is_held (same l))), n.waited ∙ (sym waits ∙ sym (ap waits_at (same l))))

  -- a note leaves the seat
  pub noted-is : (a b : Pass R O E C) (h w : Bool) → NotesLock l h w a b → b ≡ record a { nest = b.nest }
  noted-is a b h w n = λ i. record { seat = n.seat i; face = n.face i; nest = b.nest }

  pub noted-past : (a b : Pass R O E C) (h w : Bool) → NotesLock l h w a b → KeepsPast a b
  noted-past a b h w n = subst (KeepsPast a) (sym (noted-is a b h w n)) (λ p t. t)

  pub noted-point : (a b : Pass R O E C) (h w : Bool) → NotesLock l h w a b → (m : ℕ) → point_in m b ≡ point_in m a
  noted-point a b h w n m = ap (λ s. point_at m s.me.0.view.spin) n.seat

  pub noted-frame : (a b : Pass R O E C) (h w : Bool) → NotesLock l h w a b → frame_at l (spin_in b) ≡ frame_at l (spin_in a)
  noted-frame a b h w n = ap (λ s. frame_at l s.me.0.view.spin) n.seat

  pub noted-nodes : (a b : Pass R O E C) (h w : Bool) → NotesLock l h w a b → IsDepthTold a → KeepsNodes a b
  noted-nodes a b h w n told = let same = ap (λ s. depth_of s.me.0.view.spin) n.seat in record { told = n.depth ∙ (told ∙ sym same); same = same }

  -- it waits after a note
  pub waits-noted : (site : Site R O E C) (quiet : Type 0) (f : LockHand → LockHand) (a b d : Pass R O E C) (h w : Bool) → NotesLock l h w a b → SpinWaits l quiet site b d (f (lock_hand_of l b)) → SpinWaits l quiet site a d (f (lock_hand_of l a))
  waits-noted site quiet f a b d h w n t = let s : SpinWaits l quiet site (record a { nest = b.nest }) d (f (lock_hand_of l a)) = subst (λ (z : Pass R O E C). SpinWaits l quiet site z d (f (lock_hand_of l z))) (noted-is a b h w n) t in record {
    own = s.own;
    face = s.face;
    goes_on = s.goes_on;
    last = s.last;
    hand = s.hand;
    fronts = s.fronts;
    ext = s.ext;
    lock_hand = s.lock_hand;
    others = s.others;
    entries = s.entries;
    later = s.later;
    flags = beside-then l a.nest b.nest d.nest n.flags t.flags;
    still = s.still;
  }

  -- it was refused
  pub refused-told : (a b : Pass R O E C) → l < 8 → SameFlags a.nest b.nest → LockRefused l (view_of a) (view_of b) → RestsAt l (spin_in a) → IsDepthTold b → IsNestTold a → IsNestTold b
  refused-told a b few same r out depth told = let rests : point_in l b ≡ point_in l a = r.out ∙ sym out in
      told-on a b few same (λ m apart. ap (λ (x : LockHand). x.frame.point) (r.others m apart)) (ap is_held rests) (ap waits_at rests) depth told
