-- A step on one of the spin words, from what it makes of its lock.
use Rattle.std.proofs.Common.{◌≡◌, ◌≢◌, ℕ, suc, ◌+◌, ◌*◌, ◌<◌, ◌⊎◌, Bool, true, false, List, length, map, get_or, set, sym, refl, ap, ◌∙◌, subst, inr, arith, length-set, get_or-set_same, get_or-set_other, Some}
use mathlib.Core.Logic.{dite}
use native.Mathlib.Decide.{ℕ_discrete}
use mathlib.Core.Option.{some}
use lib.ListN.{get_elem?}
use lib.Seq.{set-get_or}
use Rattle.word_bits.specs.declared.TheConstants.{MAX_TASKS}
use Rattle.lock_core.specs.declared.layout.TheConstants.{SPIN_WORDS}
use Rattle.qspin_word.specs.Types.{SpinHand, LockHand, Frame, Saw, Point}
use Rattle.lock_core.specs.ViewParts.{each-set, set_part, keep_part}
use Rattle.lock_core.specs.Views.{SpinPart}
use Rattle.lock_core.specs.LockHands.{lock_hand_at, frame_at, point_at, RestsAt}
use Rattle.lock_core.specs.SpinFrames.{stands, holds_of}
use Rattle.lock_core.specs.SpinQueues.{LockKept, Put}
use Rattle.lock_core.specs.Laws.Spin.{lock-of}
use Rattle.lock_core.specs.Spins.{SpinFacts, SpinsMove, LockIn, IsFew, OwnNodes, tail_in, QueueMoves, TakesFrom, ComesTo, LeavesBy, frame_on, word_in, next_in, locked_in, word_at, next_at, locked_at}

-- the codes of nodes are small
abbrev pub codes : ℕ
codes = 4 * MAX_TASKS + 4

pub put-next : (w : List ℕ) (c n : ℕ) → length w ≡ SPIN_WORDS → c < codes → Put (next_in w) (next_in (set w (next_at c) n)) c n
put-next w c n wide small = record { here = get_or-set_same w (next_at c) n 0 (omega arith); other = λ d far. get_or-set_other w (next_at c) (next_at d) n 0 (λ e. far (omega arith)) }

pub put-locked : (w : List ℕ) (c n : ℕ) → length w ≡ SPIN_WORDS → c < codes → Put (locked_in w) (locked_in (set w (locked_at c) n)) c n
put-locked w c n wide small = record { here = get_or-set_same w (locked_at c) n 0 (omega arith); other = λ d far. get_or-set_other w (locked_at c) (locked_at d) n 0 (λ e. far (omega arith)) }

-- a step after which the pass's node stands in the queue where it stood before
pub queue-stays : (b : Bool) (code tail found : ℕ) (q : List ℕ) → QueueMoves b b code tail found found q q
queue-stays true code tail found q = (refl, refl)
queue-stays false code tail found q = refl

pub stays-in : (l : ℕ) (b : Bool) (w q w' : List ℕ) → LeavesBy l b b w q w'
stays-in l true w q w' = tt
stays-in l false w q w' = tt

-- another lock, after the store of a lock's word
pub word-away : (w : List ℕ) (l m x : ℕ) (q : List ℕ) (fs : List Frame) → m ≢ l → LockKept (word_in w m) (next_in w) (locked_in w) q fs → LockKept (word_in (set w (word_at l) x) m) (next_in (set w (word_at l) x)) (locked_in (set w (word_at l) x)) q fs
word-away w l m x q fs apart = subst (λ (z : ℕ × (ℕ → ℕ) × (ℕ → ℕ)). LockKept z.0 z.1 z.2 q fs) (λ i. (sym (get_or-set_other w (word_at l) (word_at m) x 0 (λ e. apart (omega (arith, e)))) i, (λ c. sym (get_or-set_other w (word_at l) (next_at c) x 0 (λ e. omega (arith, e))) i), (λ c. sym (get_or-set_other w (word_at l) (locked_at c) x 0 (λ e. omega (arith, e))) i)))

-- a step of the pass id at the lock l, from the point `before`, after which it has the spin hand s, with this frame at the lock, and the queues are q'
module _ (n l : ℕ) (less : l < n) (w : List ℕ) (q q' : ℕ → List ℕ) (ps : List SpinPart) (id : ℕ) (p : SpinPart) (s : SpinHand) (g : Frame) (k : SpinFacts n w q ps) (now : frame_at l s ≡ g) (still : (m : ℕ) → m ≢ l → lock_hand_at m s ≡ lock_hand_at m p.spin) (requeues : (m : ℕ) → m ≢ l → q' m ≡ q m)
    (sees : (x : Saw) → s.saw ≡ Some x → (p.spin.saw ≡ Some x) ⊎ ((x.word ≡ word_in w l) × RestsAt l p.spin)) (at : get_elem? ps id ≡ some p) (own : OwnNodes (record p { spin = s })) (before : Point) (is : point_at l p.spin ≡ before)
    (moves : QueueMoves (stands before) (stands g.point) (frame_on l p).code (tail_in (word_in w l)) (frame_on l p).found g.found (q l) (q' l)) (takes : holds_of g ≡ 1 → TakesFrom before (word_in w l)) (comes : ComesTo before g.point (word_in w l)) where
  abbrev fs' : List Frame
  fs' = set (map (frame_on l) ps) id g

  abbrev p' : SpinPart
  p' = record p { spin = s }

  abbrev ps' : List SpinPart
  ps' = set ps id p'

  module _ (w' : List ℕ) (long : length w' ≡ length w) (leaves : LeavesBy l (stands before) (stands g.point) w (q' l) w') (words : (m : ℕ) → m ≢ l → word_in w' m ≡ word_in w m)
      (away : (m : ℕ) → m ≢ l → m < n → LockKept (word_in w' m) (next_in w') (locked_in w') (q m) (map (frame_on m) ps)) (lock : LockKept (word_in w' l) (next_in w') (locked_in w') (q' l) fs') where
    each-lock : (m : ℕ) → m < n → LockIn w' q' ps' m
    each-lock m more = dite (ℕ_discrete m l)
        (λ e. subst (LockIn w' q' ps') (sym e) (set_part (frame_on l) (LockKept (word_in w' l) (next_in w') (locked_in w') (q' l)) ps id p' (subst (λ (f : Frame). LockKept (word_in w' l) (next_in w') (locked_in w') (q' l) (set (map (frame_on l) ps) id f)) (sym now) lock)))
        (λ apart. keep_part (frame_on m) (LockKept (word_in w' m) (next_in w') (locked_in w') (q' m)) ps id p p' at (ap (λ (b : LockHand). b.frame) (still m apart)) (subst (λ (z : List ℕ). LockKept (word_in w' m) (next_in w') (locked_in w') z (map (frame_on m) ps)) (sym (requeues m apart)) (away m apart more)))

    goes : SpinsMove n id w ps w' ps'
    goes = record {
      queues = q;
      queues' = q';
      old = k;
      new = record {
        wide = long ∙ k.wide;
        lock = each-lock 0 (omega (arith, less));
        nest = λ m more. each-lock (suc m) more;
        few = each-set (IsFew n) (IsFew n) ps id p' (λ m far. ap (λ (b : LockHand). b.frame.point) (still m (λ e. omega (arith, e, less, far))) ∙ k.few id p at m far) (λ j v _ _ ok. ok) k.few;
        own = each-set OwnNodes OwnNodes ps id p' own (λ j v _ _ ok. ok) k.own;
      };
      step = inr (
        l,
        less,
        record {
          before = p;
          after = p';
          at = at;
          others = refl;
          takes = λ holds. subst (λ (z : Point). TakesFrom z (word_in w l)) (sym is) (takes (ap holds_of (sym now) ∙ holds));
          comes = subst (λ (z : Point × Point). ComesTo z.0 z.1 (word_in w l)) (λ i. (sym is i, sym (ap (λ (f : Frame). f.point) now) i)) comes;
          leaves = subst (λ (z : Point × Point). LeavesBy l (stands z.0) (stands z.1) w (q' l) w') (λ i. (sym is i, sym (ap (λ (f : Frame). f.point) now) i)) leaves;
          saw = sees;
          queues_move = subst (λ (z : Point × Frame). QueueMoves (stands z.0) (stands z.1.point) (frame_on l p).code (tail_in (word_in w l)) (frame_on l p).found z.1.found (q l) (q' l)) (λ i. (sym is i, sym now i)) moves;
          stay = record { words = words; queues_stay = requeues; lock_hands = still };
        },
      );
    }

  -- the spin word
  pub goes-word : l < 8 → (x : ℕ) → LeavesBy l (stands before) (stands g.point) w (q' l) (set w (word_at l) x) → LockKept x (next_in w) (locked_in w) (q' l) fs' → SpinsMove n id w ps (set w (word_at l) x) ps'
  goes-word eight x leaves lock = let wide = k.wide in goes (set w (word_at l) x) (length-set w (word_at l) x) leaves (λ m apart. get_or-set_other w (word_at l) (word_at m) x 0 (λ e. apart (omega (arith, e))))
      (λ m apart more. word-away w l m x (q m) (map (frame_on m) ps) apart (lock-of n w q ps k m more))
      (subst (λ (z : ℕ × (ℕ → ℕ) × (ℕ → ℕ)). LockKept z.0 z.1 z.2 (q' l) fs') (λ i. (sym (get_or-set_same w (word_at l) x 0 (omega (arith, wide, eight))) i, (λ c. sym (get_or-set_other w (word_at l) (next_at c) x 0 (λ e. omega (arith, e))) i), (λ c. sym (get_or-set_other w (word_at l) (locked_at c) x 0 (λ e. omega (arith, e))) i))) lock)

  -- a node's `next`, of which no other lock says anything
  pub goes-next : (c x : ℕ) → LeavesBy l (stands before) (stands g.point) w (q' l) (set w (next_at c) x) → ((m : ℕ) → m ≢ l → m < n → LockKept (word_in w m) (next_in (set w (next_at c) x)) (locked_in w) (q m) (map (frame_on m) ps)) → LockKept (word_in w l) (next_in (set w (next_at c) x)) (locked_in w) (q' l) fs' → SpinsMove n id w ps (set w (next_at c) x) ps'
  goes-next c x leaves away lock = goes (set w (next_at c) x) (length-set w (next_at c) x) leaves (λ m apart. get_or-set_other w (next_at c) (word_at m) x 0 (λ e. omega (arith, e)))
      (λ m apart more. subst (λ (z : ℕ × (ℕ → ℕ)). LockKept z.0 (next_in (set w (next_at c) x)) z.1 (q m) (map (frame_on m) ps)) (λ i. (sym (get_or-set_other w (next_at c) (word_at m) x 0 (λ e. omega (arith, e))) i, (λ d. sym (get_or-set_other w (next_at c) (locked_at d) x 0 (λ e. omega (arith, e))) i))) (away m apart more))
      (subst (λ (z : ℕ × (ℕ → ℕ)). LockKept z.0 (next_in (set w (next_at c) x)) z.1 (q' l) fs') (λ i. (sym (get_or-set_other w (next_at c) (word_at l) x 0 (λ e. omega (arith, e))) i, (λ d. sym (get_or-set_other w (next_at c) (locked_at d) x 0 (λ e. omega (arith, e))) i))) lock)

  -- a node's `locked`
  pub goes-locked : (c x : ℕ) → LeavesBy l (stands before) (stands g.point) w (q' l) (set w (locked_at c) x) → ((m : ℕ) → m ≢ l → m < n → LockKept (word_in w m) (next_in w) (locked_in (set w (locked_at c) x)) (q m) (map (frame_on m) ps)) → LockKept (word_in w l) (next_in w) (locked_in (set w (locked_at c) x)) (q' l) fs' → SpinsMove n id w ps (set w (locked_at c) x) ps'
  goes-locked c x leaves away lock = goes (set w (locked_at c) x) (length-set w (locked_at c) x) leaves (λ m apart. get_or-set_other w (locked_at c) (word_at m) x 0 (λ e. omega (arith, e)))
      (λ m apart more. subst (λ (z : ℕ × (ℕ → ℕ)). LockKept z.0 z.1 (locked_in (set w (locked_at c) x)) (q m) (map (frame_on m) ps)) (λ i. (sym (get_or-set_other w (locked_at c) (word_at m) x 0 (λ e. omega (arith, e))) i, (λ d. sym (get_or-set_other w (locked_at c) (next_at d) x 0 (λ e. omega (arith, e))) i))) (away m apart more))
      (subst (λ (z : ℕ × (ℕ → ℕ)). LockKept z.0 z.1 (locked_in (set w (locked_at c) x)) (q' l) fs') (λ i. (sym (get_or-set_other w (locked_at c) (word_at l) x 0 (λ e. omega (arith, e))) i, (λ d. sym (get_or-set_other w (locked_at c) (next_at d) x 0 (λ e. omega (arith, e))) i))) lock)

  -- a load
  pub goes-look : (i : ℕ) → LeavesBy l (stands before) (stands g.point) w (q' l) (set w i (get_or w i 0)) → LockKept (word_in w l) (next_in w) (locked_in w) (q' l) fs' → SpinsMove n id w ps (set w i (get_or w i 0)) ps'
  goes-look i leaves lock = let same = set-get_or w i 0 in goes (set w i (get_or w i 0)) (ap length same) leaves (λ m apart. ap (λ (z : List ℕ). word_in z m) same)
      (λ m apart more. subst (λ (z : List ℕ). LockKept (word_in z m) (next_in z) (locked_in z) (q m) (map (frame_on m) ps)) (sym same) (lock-of n w q ps k m more))
      (subst (λ (z : List ℕ). LockKept (word_in z l) (next_in z) (locked_in z) (q' l) fs') (sym same) lock)
