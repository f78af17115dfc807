-- What a pass has to do with each of the spin locks of its table.
use Rattle.std.proofs.Common.{◌≡◌, ◌≢◌, ℕ, zero, suc, ◌+◌, List, [], ◌∷◌, refl, ap, ◌∙◌, arith}
use Rattle.lock_core.specs.Records.{bit}
use Rattle.lock_core.specs.SpinFrames.{uses}
use Rattle.lock_core.specs.Totals.{total}
use Rattle.lock_core.specs.Types.{LockHand, Frame, Point, Out, Holding, SpinHand}
use Rattle.lock_core.specs.Views.{no_frame}

-- at this lock it was never
abbrev pub no_lock_hand : LockHand
no_lock_hand = record { frame = no_frame; took = 0; from = Out }

abbrev pub lock_hand_in : List LockHand → ℕ → LockHand
lock_hand_in [] l = no_lock_hand
lock_hand_in (b ∷ bs) zero = b
lock_hand_in (b ∷ bs) (suc l) = lock_hand_in bs l

abbrev pub put_lock_hand : List LockHand → ℕ → LockHand → List LockHand
put_lock_hand [] zero b = b ∷ []
put_lock_hand [] (suc l) b = no_lock_hand ∷ put_lock_hand [] l b
put_lock_hand (x ∷ bs) zero b = b ∷ bs
put_lock_hand (x ∷ bs) (suc l) b = x ∷ put_lock_hand bs l b

abbrev pub behind_first : List LockHand → List LockHand
behind_first [] = []
behind_first (x ∷ bs) = bs

-- those of a pass, the first lock's first
abbrev pub lock_hands : SpinHand → List LockHand
lock_hands s = record { frame = s.frame; took = s.took; from = s.from } ∷ s.nest

abbrev pub with_lock_hands : SpinHand → List LockHand → SpinHand
with_lock_hands s bs = record s { frame = (lock_hand_in bs 0).frame; took = (lock_hand_in bs 0).took; from = (lock_hand_in bs 0).from; nest = behind_first bs }

abbrev pub lock_hand_at : ℕ → SpinHand → LockHand
lock_hand_at l s = lock_hand_in (lock_hands s) l

abbrev pub with_lock_hand : ℕ → SpinHand → LockHand → SpinHand
with_lock_hand l s b = with_lock_hands s (put_lock_hand (lock_hands s) l b)

abbrev pub frame_at : ℕ → SpinHand → Frame
frame_at l s = (lock_hand_at l s).frame

abbrev pub point_at : ℕ → SpinHand → Point
point_at l s = (lock_hand_at l s).frame.point

-- it has nothing to do with this lock, or with any
abbrev pub RestsAt : ℕ → SpinHand → Type 0
RestsAt l s = point_at l s ≡ Out

abbrev pub HoldsAt : ℕ → SpinHand → Type 0
HoldsAt l s = point_at l s ≡ Holding

abbrev pub RestsEverywhere : SpinHand → Type 0
RestsEverywhere s = (l : ℕ) → RestsAt l s

-- how many nodes it uses
abbrev pub used_by : LockHand → ℕ
used_by b = bit (uses b.frame.point)

abbrev pub depth_of : SpinHand → ℕ
depth_of s = total used_by (lock_hands s)

-- laws

lock-hand-put : (bs : List LockHand) (l : ℕ) (b : LockHand) → lock_hand_in (put_lock_hand bs l b) l ≡ b
lock-hand-put [] zero b = refl
lock-hand-put [] (suc l) b = lock-hand-put [] l b
lock-hand-put (x ∷ bs) zero b = refl
lock-hand-put (x ∷ bs) (suc l) b = lock-hand-put bs l b

lock-hand-else : (bs : List LockHand) (l m : ℕ) (b : LockHand) → m ≢ l → lock_hand_in (put_lock_hand bs l b) m ≡ lock_hand_in bs m
lock-hand-else [] zero zero b apart = absurd (apart refl)
lock-hand-else [] zero (suc m) b apart = refl
lock-hand-else [] (suc l) zero b apart = refl
lock-hand-else [] (suc l) (suc m) b apart = lock-hand-else [] l m b (λ e. apart (ap suc e))
lock-hand-else (x ∷ bs) zero zero b apart = absurd (apart refl)
lock-hand-else (x ∷ bs) zero (suc m) b apart = refl
lock-hand-else (x ∷ bs) (suc l) zero b apart = refl
lock-hand-else (x ∷ bs) (suc l) (suc m) b apart = lock-hand-else bs l m b (λ e. apart (ap suc e))

used-put : (bs : List LockHand) (l : ℕ) (b : LockHand) → total used_by (put_lock_hand bs l b) + used_by (lock_hand_in bs l) ≡ total used_by bs + used_by b
used-put [] zero b = omega arith
used-put [] (suc l) b = let r = used-put [] l b in omega arith
used-put (x ∷ bs) zero b = omega arith
used-put (x ∷ bs) (suc l) b = let r = used-put bs l b in omega arith

lock-hands-with : (l : ℕ) (s : SpinHand) (b : LockHand) → lock_hands (with_lock_hand l s b) ≡ put_lock_hand (lock_hands s) l b
lock-hands-with zero s b = refl
lock-hands-with (suc l) s b = refl

-- what was put there is there, and all others stay
pub at-with : (l : ℕ) (s : SpinHand) (b : LockHand) → lock_hand_at l (with_lock_hand l s b) ≡ b
at-with l s b = ap (λ (bs : List LockHand). lock_hand_in bs l) (lock-hands-with l s b) ∙ lock-hand-put (lock_hands s) l b

pub at-else : (l m : ℕ) (s : SpinHand) (b : LockHand) → m ≢ l → lock_hand_at m (with_lock_hand l s b) ≡ lock_hand_at m s
at-else l m s b apart = ap (λ (bs : List LockHand). lock_hand_in bs m) (lock-hands-with l s b) ∙ lock-hand-else (lock_hands s) l m b apart

pub depth-with : (l : ℕ) (s : SpinHand) (b : LockHand) → depth_of (with_lock_hand l s b) + used_by (lock_hand_at l s) ≡ depth_of s + used_by b
depth-with l s b = let e = ap (total used_by) (lock-hands-with l s b) in let p = used-put (lock_hands s) l b in omega (arith, e, p)
