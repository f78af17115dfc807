-- What each step of the slow path makes of the locks' own facts.
use Rattle.std.proofs.Common.{◌≡◌, ◌≢◌, ℕ, ◌+◌, ◌*◌, ◌/◌, ◌%◌, ◌==◌, ◌<◌, ◌≤◌, Bool, true, false, List, [], ◌∷◌, ◌++◌, map, get_or, set, Some, sym, refl, ap, ◌∙◌, subst, ⊎_elim, arith, eq-eqb, ne_eqb, eqb, ltb, if◌then◌else◌, inl, inr, get_or-set_same, length, Option}
use mathlib.Core.Option.{some}
use Rattle.std.proofs.lemmas.Bool.{eqb-true, ltb-true, ltb-false}
use mathlib.Core.Logic.{dite}
use native.Mathlib.Decide.{ℕ_discrete}
use lib.ListN.{get_elem?}
use Rattle.lock_core.specs.declared.layout.TheConstants.{SPIN_WORDS}
use Rattle.lock_core.specs.Totals.{total, total-at}
use Rattle.lock_core.specs.Views.{SpinPart, spin_part, part_with}
use Rattle.lock_core.specs.LockHands.{lock_hand_at, frame_at, point_at, depth_of, with_lock_hand, at-with, at-else}
use Rattle.lock_core.specs.SpinFrames.{uses, uses_as, stands, holds_at, holds_of, ready_of}
use Rattle.lock_core.specs.SpinQueues.{LockKept, tail_unit}
use Rattle.lock_core.specs.Spins.{SpinFacts, SpinGoes, SpinsMove, OwnNodes, QueueMoves, TakesFrom, ComesTo, LeavesBy, frame_on, node_code, tail_in, word_in, next_in, locked_in, word_at, next_at, locked_at, holds_on}
use Rattle.qspin_word.specs.Allows.{AreNumbered, SpinAllows}
use Rattle.qspin_word.specs.SpinWordHands.{at_point, went, framed, taken, took_at}
use Rattle.qspin_queue.specs.SpinQueueHandles.{IsTop, codes_of}
use Rattle.qspin_queue.specs.SpinQueueHands.{code_for, node_at, as_head, retried, cleared_locked, cleared_next, queued, linked, heard, learnt, readied, took_last, took_head, passed}
use Rattle.qspin_queue.specs.Types.{Load, Store, Or, Exchange, View, SpinHand, LockHand, Frame, Point, Out, Clearing, Cleared, Linking, Waiting, Head, Ready, Passing, Holding}
use Rattle.qspin_word.proofs.Bits.{or_byte}
use Rattle.qspin_word.proofs.WordSteps as step
use Rattle.qspin_word.proofs.OwnNodes.{own-node}
use Rattle.qspin_word.proofs.Regions.{codes, goes-word, goes-next, goes-locked, goes-look, put-next, put-locked}
use Rattle.qspin_word.proofs.SpinSteps.{by_test, counts-took, counts-idle, After, here, kept, looks-still, moved}
use Rattle.qspin_queue.proofs.NodeSteps as node
use Rattle.qspin_queue.proofs.Stating.{states}
use Rattle.qspin_queue.proofs.Sharing.{User, small-user, queued-user, small-tail, small-next, unused-else, unused-new, away-next, away-locked, own-enter, own-leave, own-entries}

-- the queue of one lock is another one
abbrev pub requeue : (ℕ → List ℕ) → ℕ → List ℕ → ℕ → List ℕ
requeue q l r m = if m == l then r else q m

requeue-here : (q : ℕ → List ℕ) (l : ℕ) (r : List ℕ) → requeue q l r l ≡ r
requeue-here q l r = ap (λ (b : Bool). if b then r else q l) (eq-eqb l l refl)

requeue-else : (q : ℕ → List ℕ) (l : ℕ) (r : List ℕ) (m : ℕ) → m ≢ l → requeue q l r m ≡ q m
requeue-else q l r m apart = ap (λ (b : Bool). if b then r else q m) (ne_eqb m l apart)

module _ {E : Type 0} (n l : ℕ) (less : l < n) (most : n ≤ 8) (v : View E) (id : ℕ) where
  abbrev f : Frame
  f = frame_at l v.spin

  eight : l < 8
  eight = omega (arith, less, most)

  module _ (w : List ℕ) (q : ℕ → List ℕ) (ps : List SpinPart) (k : SpinFacts n w q ps) (at : get_elem? ps id ≡ some (spin_part v)) where
    abbrev Afters : List ℕ → SpinHand → Type 0
    Afters w' s = After n l less most v id w q ps k at w' s

    abbrev word : ℕ
    word = word_in w l

    abbrev fs : List Frame
    fs = map (frame_on l) ps

    mine : OwnNodes (spin_part v)
    mine = k.own id (spin_part v) at

    -- it uses the node that it used
    own-same : (g : Frame) (p : Point) → f.point ≡ p → uses p ≡ true → uses g.point ≡ true → g.code ≡ f.code → OwnNodes (record (spin_part v) { spin = framed l v.spin g })
    own-same g p e used used' same = own-node l (spin_part v) (moved n l less most v id g) (ap uses e ∙ used) used' same mine

    own-left : (b : LockHand) (p : Point) → f.point ≡ p → uses p ≡ true → uses b.frame.point ≡ false → IsTop l (spin_part v) → OwnNodes (record (spin_part v) { spin = with_lock_hand l v.spin b })
    own-left b p e used free top = own-leave l (spin_part v) b (ap uses e ∙ used) free top mine

    -- a step to another frame, after which this is the lock's queue
    module _ (r : List ℕ) (g : Frame) (own : OwnNodes (record (spin_part v) { spin = framed l v.spin g })) (p : Point) (e : f.point ≡ p) (less_held : holds_of g ≤ holds_at p) (moves : QueueMoves (stands p) (stands g.point) f.code (tail_in word) f.found g.found (q l) r) (takes : holds_of g ≡ 1 → TakesFrom p word) (comes : ComesTo p g.point word) where
      abbrev fs' : List Frame
      fs' = set fs id g

      counted : SpinGoes (v.steps + 1) l v.spin (framed l v.spin g)
      counted = counts-idle (v.steps + 1) l v.spin g v.spin.saw (let h = ap holds_at e in omega (arith, h, less_held)) (λ x e. inl e)

      now : frame_at l (framed l v.spin g) ≡ g
      now = ap (λ (b : LockHand). b.frame) (at-with l v.spin (moved n l less most v id g))

      stay : (m : ℕ) → m ≢ l → lock_hand_at m (framed l v.spin g) ≡ lock_hand_at m v.spin
      stay m apart = at-else l m v.spin (moved n l less most v id g) apart

      moves' : QueueMoves (stands p) (stands g.point) f.code (tail_in word) f.found g.found (q l) (requeue q l r l)
      moves' = subst (QueueMoves (stands p) (stands g.point) f.code (tail_in word) f.found g.found (q l)) (sym (requeue-here q l r)) moves

      to-word : (x : ℕ) → LeavesBy l (stands p) (stands g.point) w r (set w (word_at l) x) → LockKept x (next_in w) (locked_in w) r fs' → Afters (set w (word_at l) x) (framed l v.spin g)
      to-word x leaves lock = (
        goes-word n l less w q (requeue q l r) ps id (spin_part v) (framed l v.spin g) g k now stay (requeue-else q l r) (λ x e. inl e) at own p e moves' takes comes eight x
            (subst (λ (z : List ℕ). LeavesBy l (stands p) (stands g.point) w z (set w (word_at l) x)) (sym (requeue-here q l r)) leaves) (subst (λ (z : List ℕ). LockKept x (next_in w) (locked_in w) z fs') (sym (requeue-here q l r)) lock),
        counted,
      )

      to-next : (c x : ℕ) → LeavesBy l (stands p) (stands g.point) w r (set w (next_at c) x) → ((m : ℕ) → m ≢ l → m < n → LockKept (word_in w m) (next_in (set w (next_at c) x)) (locked_in w) (q m) (map (frame_on m) ps)) → LockKept word (next_in (set w (next_at c) x)) (locked_in w) r fs' → Afters (set w (next_at c) x) (framed l v.spin g)
      to-next c x leaves away lock = (
        goes-next n l less w q (requeue q l r) ps id (spin_part v) (framed l v.spin g) g k now stay (requeue-else q l r) (λ x e. inl e) at own p e moves' takes comes c x
            (subst (λ (z : List ℕ). LeavesBy l (stands p) (stands g.point) w z (set w (next_at c) x)) (sym (requeue-here q l r)) leaves) away (subst (λ (z : List ℕ). LockKept word (next_in (set w (next_at c) x)) (locked_in w) z fs') (sym (requeue-here q l r)) lock),
        counted,
      )

      to-locked : (c x : ℕ) → LeavesBy l (stands p) (stands g.point) w r (set w (locked_at c) x) → ((m : ℕ) → m ≢ l → m < n → LockKept (word_in w m) (next_in w) (locked_in (set w (locked_at c) x)) (q m) (map (frame_on m) ps)) → LockKept word (next_in w) (locked_in (set w (locked_at c) x)) r fs' → Afters (set w (locked_at c) x) (framed l v.spin g)
      to-locked c x leaves away lock = (
        goes-locked n l less w q (requeue q l r) ps id (spin_part v) (framed l v.spin g) g k now stay (requeue-else q l r) (λ x e. inl e) at own p e moves' takes comes c x
            (subst (λ (z : List ℕ). LeavesBy l (stands p) (stands g.point) w z (set w (locked_at c) x)) (sym (requeue-here q l r)) leaves) away (subst (λ (z : List ℕ). LockKept word (next_in w) (locked_in (set w (locked_at c) x)) z fs') (sym (requeue-here q l r)) lock),
        counted,
      )

      to-look : (i : ℕ) → LeavesBy l (stands p) (stands g.point) w r (set w i (get_or w i 0)) → LockKept word (next_in w) (locked_in w) r fs' → Afters (set w i (get_or w i 0)) (framed l v.spin g)
      to-look i leaves lock = (
        goes-look n l less w q (requeue q l r) ps id (spin_part v) (framed l v.spin g) g k now stay (requeue-else q l r) (λ x e. inl e) at own p e moves' takes comes i
            (subst (λ (z : List ℕ). LeavesBy l (stands p) (stands g.point) w z (set w i (get_or w i 0))) (sym (requeue-here q l r)) leaves) (subst (λ (z : List ℕ). LockKept word (next_in w) (locked_in w) z fs') (sym (requeue-here q l r)) lock),
        counted,
      )

    -- a step on the word that takes the lock
    to-taken : (r : List ℕ) (to : Point) (own : OwnNodes (record (spin_part v) { spin = with_lock_hand l v.spin (taken l v.spin (v.steps + 1) to) })) (p : Point) (e : f.point ≡ p) → holds_at p ≡ 0 → holds_at to ≡ 1 → QueueMoves (stands p) (stands to) f.code (tail_in word) f.found f.found (q l) r → TakesFrom p word → ComesTo p to word
        → (x : ℕ) → LeavesBy l (stands p) (stands to) w r (set w (word_at l) x) → LockKept x (next_in w) (locked_in w) r (set fs id (at_point f to)) → Afters (set w (word_at l) x) (took_at l v.spin (v.steps + 1) to)
    to-taken r to own p e free holds moves takes comes x leaves lock = let b : LockHand = taken l v.spin (v.steps + 1) to in (
      goes-word n l less w q (requeue q l r) ps id (spin_part v) (took_at l v.spin (v.steps + 1) to) (at_point f to) k (ap (λ (b : LockHand). b.frame) (at-with l v.spin b)) (λ m apart. at-else l m v.spin b apart) (requeue-else q l r) (λ x e. inl e) at
          (own-entries (spin_part v) (with_lock_hand l v.spin b) (v.spin.entries + 1) own) p e (subst (QueueMoves (stands p) (stands to) f.code (tail_in word) f.found f.found (q l)) (sym (requeue-here q l r)) moves) (λ _. takes) comes eight x
          (subst (λ (z : List ℕ). LeavesBy l (stands p) (stands to) w z (set w (word_at l) x)) (sym (requeue-here q l r)) leaves) (subst (λ (z : List ℕ). LockKept x (next_in w) (locked_in w) z (set fs id (at_point f to))) (sym (requeue-here q l r)) lock),
      counts-took l v.spin (v.steps + 1) to (ap holds_at e ∙ free) holds,
    )

    old : (p : Point) → f.point ≡ p → get_elem? fs id ≡ some (at_point f p)
    old p e = here n l less most v id w q ps k at p e

    lock : LockKept word (next_in w) (locked_in w) (q l) fs
    lock = kept n l less most v id w q ps k at

    still : (i : ℕ) → Afters (set w i (get_or w i 0)) v.spin
    still i = looks-still n l less most v id w q ps k at i

    module _ {tasks : ℕ} (named : AreNumbered tasks ps) where
      -- the code of its own node is small, and no other lock has it
      my-node : (p : Point) → f.point ≡ p → uses p ≡ true → User n w q ps k named l f.code
      my-node p e used = (id, spin_part v, at, ap uses e ∙ used, refl)

  pub retries : {tasks : ℕ} → f.point ≡ Cleared → IsTop l (spin_part v) → SpinAllows n tasks l id v (word_at l) (Exchange 0 1) (λ x. retried l x v) (λ x. Unit {0})
  retries e top w q ps k named at small = let x : ℕ = word_in w l in let t : Afters w q ps k at (set w (word_at l) (if x == 0 then 1 else x)) (retried l x v) = dite (ℕ_discrete x 0)
      (λ free. subst (λ (b : Bool). Afters w q ps k at (set w (word_at l) (if b then 1 else x)) (if b then took_at l v.spin (v.steps + 1) Holding else v.spin)) (sym (eq-eqb x 0 free))
      (to-taken w q ps k at (q l) Holding (own-left w q ps k at (taken l v.spin (v.steps + 1) Holding) Cleared e refl refl top) Cleared e refl refl refl free tt 1 tt
      (step.takes-clean (next_in w) (locked_in w) (q l) (map (frame_on l) ps) id f (subst (λ (z : ℕ). LockKept z (next_in w) (locked_in w) (q l) (map (frame_on l) ps)) free (lock w q ps k at)) (old w q ps k at Cleared e))))
      (λ not. subst (λ (b : Bool). Afters w q ps k at (set w (word_at l) (if b then 1 else x)) (if b then took_at l v.spin (v.steps + 1) Holding else v.spin)) (sym (ne_eqb x 0 not)) (still w q ps k at (word_at l))) in (t.0, t.1, tt)

  -- the words of the own node are cleared
  pub clears-locked : {tasks : ℕ} → (t i : ℕ) → v.hand.task ≡ Some t → t < tasks → i < 4 → i ≡ depth_of v.spin → f.point ≡ Out → SpinAllows n tasks l id v (locked_at (node_code t i)) (Store 0) (λ x. cleared_locked l v) (λ x. Unit {0})
  clears-locked t i task few four deep e w q ps k named at small = let c : ℕ = node_code t i in let wide = k.wide in let top = named.most in let fits : c < codes = omega (arith, few, four, top) in
      let own : c ≡ code_for v.hand.task (depth_of v.spin) = ap (node_code t) deep ∙ ap (λ (o : Option ℕ). code_for o (depth_of v.spin)) (sym task) in
      let unused : (m : ℕ) → total (uses_as c) (map (frame_on m) ps) ≡ 0 = unused-new n w q ps k named id (spin_part v) t i at task four (omega (arith, deep)) in
      let r = to-locked w q ps k at (q l) (node_at Clearing c) (own-enter l (spin_part v) (moved n l less most v id (node_at Clearing c)) t i e refl task deep four refl (mine w q ps k at)) Out e (omega arith) refl (λ no. absurd (omega arith)) tt c 0 tt
      (λ m apart more. away-locked n w q ps k named m c 0 more fits (unused m))
      (node.wipes (word_in w l) (next_in w) (locked_in w) (q l) (map (frame_on l) ps) id (locked_in (set w (locked_at c) 0)) f c (unused l) (put-locked w c 0 wide fits) (lock w q ps k at) (old w q ps k at Out e)) in
      let r' : Afters w q ps k at (set w (locked_at c) 0) (cleared_locked l v) = subst (λ (z : ℕ). Afters w q ps k at (set w (locked_at c) 0) (framed l v.spin (node_at Clearing z))) own r in (r'.0, r'.1, tt)

  pub clears-next : {tasks : ℕ} → f.point ≡ Clearing → SpinAllows n tasks l id v (next_at f.code) (Store 0) (λ x. cleared_next l v) (λ x. Unit {0})
  clears-next e w q ps k named at small = let c : ℕ = f.code in let wide = k.wide in let user = my-node w q ps k at named Clearing e refl in let fits = small-user n w q ps k named l c user in
      let r = to-next w q ps k at (q l) (at_point f Cleared) (own-same w q ps k at (at_point f Cleared) Clearing e refl refl refl) Clearing e (omega arith) refl (λ no. absurd (omega arith)) tt c 0 tt
      (λ m apart more. away-next n w q ps k named m c 0 more fits (unused-else n w q ps k named l m c apart user))
      (node.cleans (word_in w l) (next_in w) (locked_in w) (q l) (map (frame_on l) ps) id (next_in (set w (next_at c) 0)) f (put-next w c 0 wide fits) (lock w q ps k at) (old w q ps k at Clearing e)) in (r.0, r.1, tt)

  -- the exchange of the tail
  pub queues : {tasks : ℕ} → (from : ℕ) → f.point ≡ Cleared → SpinAllows n tasks l id v (word_at l) (Exchange from (from % 512 + tail_unit * f.code)) (λ x. queued l from x v) (λ x. x / tail_unit < codes_of tasks)
  queues from e w q ps k named at small = let x : ℕ = word_in w l in let c : ℕ = f.code in let o = (mine w q ps k at).node l (ap uses e) in let m = o.is in let true_code : c ≢ 0 = λ z. omega (arith, m, z) in let r : List ℕ = q l ++ c ∷ [] in
      let first : Frame = record f { point = Head; found = 0; next = 0 } in let behind : Frame = record f { point = Linking; found = x / tail_unit } in let i : ℕ = word_at l in
      let t : Afters w q ps k at (set w i (if x == from then from % 512 + tail_unit * c else x)) (queued l from x v) = by_test (eqb x from) (λ b. Afters w q ps k at (set w i (if b then from % 512 + tail_unit * c else x)) (if b then (if ltb x 512 then framed l v.spin first else framed l v.spin behind) else v.spin))
      (λ same. subst (λ (z : ℕ). Afters w q ps k at (set w i (z % 512 + tail_unit * c)) (if ltb x 512 then framed l v.spin first else framed l v.spin behind)) (eqb-true x from same)
      (by_test (ltb x 512) (λ b. Afters w q ps k at (set w i (x % 512 + tail_unit * c)) (if b then framed l v.spin first else framed l v.spin behind))
      (λ low. to-word w q ps k at r first (own-same w q ps k at first Cleared e refl refl refl) Cleared e (omega arith) (refl, omega (arith, ltb-true x 512 low)) (λ no. absurd (omega arith)) tt (x % 512 + tail_unit * c) tt
      (node.enters-first x (next_in w) (locked_in w) (q l) (map (frame_on l) ps) id f true_code (ltb-true x 512 low) (lock w q ps k at) (old w q ps k at Cleared e)))
      (λ high. to-word w q ps k at r behind (own-same w q ps k at behind Cleared e refl refl refl) Cleared e (omega arith) (refl, refl) (λ no. absurd (omega arith)) tt (x % 512 + tail_unit * c) tt
      (node.enters x (next_in w) (locked_in w) (q l) (map (frame_on l) ps) id f true_code (ltb-false x 512 high) (lock w q ps k at) (old w q ps k at Cleared e)))))
      (λ other. still w q ps k at i) in
      (t.0, t.1, small-tail n w q ps k named l less)

  -- it tells its predecessor
  pub links : {tasks : ℕ} → f.point ≡ Linking → SpinAllows n tasks l id v (next_at f.found) (Store f.code) (λ x. linked l v) (λ x. Unit {0})
  links e w q ps k named at small = let wide = k.wide in let there = old w q ps k at Linking e in let ok = (lock w q ps k at).each id (at_point f Linking) there in let user = queued-user n w q ps k named l less ok.0.0 f.found ok.0.1 in let fits = small-user n w q ps k named l f.found user in
      let r = to-next w q ps k at (q l) (at_point f Waiting) (own-same w q ps k at (at_point f Waiting) Linking e refl refl refl) Linking e (omega arith) (refl, refl) (λ no. absurd (omega arith)) tt f.found f.code tt
      (λ m apart more. away-next n w q ps k named m f.found f.code more fits (unused-else n w q ps k named l m f.found apart user))
      (node.links (word_in w l) (next_in w) (locked_in w) (q l) (map (frame_on l) ps) id (next_in (set w (next_at f.found) f.code)) f (put-next w f.found f.code wide fits) (lock w q ps k at) there) in (r.0, r.1, tt)

  -- a load of the own `locked`
  pub hears : {tasks : ℕ} → f.point ≡ Waiting → SpinAllows n tasks l id v (locked_at f.code) Load (λ x. heard l x v) (λ x. Unit {0})
  hears e w q ps k named at small = let i : ℕ = locked_at f.code in let x : ℕ = get_or w i 0 in
      let t : Afters w q ps k at (set w i x) (heard l x v) = by_test (eqb x 1) (λ b. Afters w q ps k at (set w i x) (if b then framed l v.spin (as_head f) else v.spin))
      (λ one. to-look w q ps k at (q l) (as_head f) (own-same w q ps k at (as_head f) Waiting e refl refl refl) Waiting e (omega arith) (refl, refl) (λ no. absurd (omega arith)) tt i tt
      (node.fronts (word_in w l) (next_in w) (locked_in w) (q l) (map (frame_on l) ps) id f (eqb-true x 1 one) (lock w q ps k at) (old w q ps k at Waiting e)))
      (λ other. still w q ps k at i) in (t.0, t.1, tt)

  -- loads of the own `next`
  pub learns : {tasks : ℕ} → f.point ≡ Head → SpinAllows n tasks l id v (next_at f.code) Load (λ x. learnt l Head x v) (λ x. x < codes_of tasks)
  learns e w q ps k named at small = let x : ℕ = next_in w f.code in let g : Frame = record f { point = Head; next = x } in let there = old w q ps k at Head e in
      let r = to-look w q ps k at (q l) g (own-same w q ps k at g Head e refl refl refl) Head e (omega arith) (refl, refl) (λ no. absurd (omega arith)) tt (next_at f.code) tt (node.learns (word_in w l) (next_in w) (locked_in w) (q l) (map (frame_on l) ps) id f (lock w q ps k at) there) in
      (r.0, r.1, small-next n w q ps k named l less f.code ((lock w q ps k at).each id (at_point f Head) there).0)

  pub learns-late : {tasks : ℕ} → f.point ≡ Passing → SpinAllows n tasks l id v (next_at f.code) Load (λ x. learnt l Passing x v) (λ x. x < codes_of tasks)
  learns-late e w q ps k named at small = let x : ℕ = next_in w f.code in let g : Frame = record f { point = Passing; next = x } in let there = old w q ps k at Passing e in
      let r = to-look w q ps k at (q l) g (own-same w q ps k at g Passing e refl refl refl) Passing e (omega arith) (refl, refl) (λ _. tt) tt (next_at f.code) tt (node.learns-late (word_in w l) (next_in w) (locked_in w) (q l) (map (frame_on l) ps) id f (lock w q ps k at) there) in
      (r.0, r.1, small-next n w q ps k named l less f.code ((lock w q ps k at).each id (at_point f Passing) there).0)

  -- the head loads the word
  pub readies : {tasks : ℕ} → f.point ≡ Head → SpinAllows n tasks l id v (word_at l) Load (λ x. readied l x v) (λ x. Unit {0})
  readies e w q ps k named at small = let i : ℕ = word_at l in let x : ℕ = word_in w l in let t : Afters w q ps k at (set w i x) (readied l x v) = by_test (eqb (x % 512) 0) (λ b. Afters w q ps k at (set w i x) (if b then went l v.spin Ready else v.spin))
      (λ free. let z = eqb-true (x % 512) 0 free in to-look w q ps k at (q l) (at_point f Ready) (own-same w q ps k at (at_point f Ready) Head e refl refl refl) Head e (omega arith) (refl, refl) (λ no. absurd (omega arith)) (omega (arith, z), omega (arith, z)) i tt
      (node.readies x (next_in w) (locked_in w) (q l) (map (frame_on l) ps) id f z (lock w q ps k at) (old w q ps k at Head e)))
      (λ held. still w q ps k at i) in (t.0, t.1, tt)

  -- the exchange of the own tail alone for 1
  pub takes-last : {tasks : ℕ} → (from : ℕ) → from ≡ tail_unit * f.code → f.point ≡ Ready → IsTop l (spin_part v) → SpinAllows n tasks l id v (word_at l) (Exchange from 1) (λ x. took_last l from x v) (λ x. Unit {0})
  takes-last from is e top w q ps k named at small = let i : ℕ = word_at l in let x : ℕ = word_in w l in let s : SpinHand = took_at l v.spin (v.steps + 1) Holding in let there = old w q ps k at Ready e in
      let t : Afters w q ps k at (set w i (if x == from then 1 else x)) (took_last l from x v) = by_test (eqb x from) (λ b. Afters w q ps k at (set w i (if b then 1 else x)) (if b then s else v.spin))
      (λ same. let own : x ≡ tail_unit * f.code = eqb-true x from same ∙ is in let wide = k.wide in
      to-taken w q ps k at [] Holding (own-left w q ps k at (taken l v.spin (v.steps + 1) Holding) Ready e refl refl top) Ready e refl refl (node.alone-in x (next_in w) (locked_in w) (map (frame_on l) ps) id (q l) f own (lock w q ps k at) there) (let m : x % 256 ≡ 0 = omega (arith, own) in m) tt 1
      (inl (first-word w 1 wide))
      (node.takes-alone x (next_in w) (locked_in w) (map (frame_on l) ps) id (q l) f own (lock w q ps k at) there))
      (λ other. still w q ps k at i) in (t.0, t.1, tt)
    where
      first-word : (w : List ℕ) (x : ℕ) → length w ≡ SPIN_WORDS → get_or (set w (word_at l) x) (word_at l) 0 ≡ x
      first-word w x wide = let e = eight in get_or-set_same w (word_at l) x 0 (omega (arith, wide, e))

  -- the head sets the locked byte
  pub takes-head : {tasks : ℕ} → f.point ≡ Ready → SpinAllows n tasks l id v (word_at l) (Or 1) (λ x. took_head l v) (λ x. Unit {0})
  takes-head e w q ps k named at small = let x : ℕ = word_in w l in let there = old w q ps k at Ready e in let b = (lock w q ps k at).balanced in let h : 1 ≤ total ready_of (map (frame_on l) ps) = total-at ready_of (map (frame_on l) ps) id (at_point f Ready) there in
      let r = to-taken w q ps k at (q l) Passing (own-node l (spin_part v) (taken l v.spin (v.steps + 1) Passing) (ap uses e) refl refl (mine w q ps k at)) Ready e refl refl (refl, refl) (let m : x % 256 ≡ 0 = omega arith in m) tt (x + 1) tt (node.passes x (next_in w) (locked_in w) (q l) (map (frame_on l) ps) id f (lock w q ps k at) there) in (
        subst (λ (m : ℕ). SpinsMove n id w ps (set w (word_at l) m) (set ps id (part_with v (took_head l v)))) (sym (or_byte x (omega arith))) r.0,
        r.1,
        tt,
      )

  -- it makes its successor the head
  pub tells-next : {tasks : ℕ} → f.next ≢ 0 → f.point ≡ Passing → IsTop l (spin_part v) → SpinAllows n tasks l id v (locked_at f.next) (Store 1) (λ x. passed l v) (λ x. Unit {0})
  tells-next some_next e top w q ps k named at small = let wide = k.wide in let there = old w q ps k at Passing e in let ok = (lock w q ps k at).each id (at_point f Passing) there in
      let second : (get_elem? (q l) 1 ≡ some f.next) × (next_in w f.code ≡ f.next) = ⊎_elim (λ z. absurd (some_next z)) (λ s. s) ok.2 in
      let user = queued-user n w q ps k named l less 1 f.next second.0 in let fits = small-user n w q ps k named l f.next user in let stated = states (word_in w l) (next_in w) (locked_in w) (q l) (map (frame_on l) ps) (lock w q ps k at) in
      let r = node.passes-on (word_in w l) (next_in w) (locked_in w) (map (frame_on l) ps) id (locked_in (set w (locked_at f.next) 1)) (q l) f some_next (put-locked w f.next 1 wide fits) (lock w q ps k at) there in
      let t = to-locked w q ps k at r.0 (at_point f Holding) (own-left w q ps k at (moved n l less most v id (at_point f Holding)) Passing e refl refl top) Passing e (omega arith) r.1 (λ _. tt) tt f.next 1
      (inr (f.next, ap (λ (z : List ℕ). get_elem? z 1) (sym r.1) ∙ second.0, (λ one. let first = stated.told 1 f.next second.0 one in omega (arith, first)), (put-locked w f.next 1 wide fits).here))
      (λ m apart more. away-locked n w q ps k named m f.next 1 more fits (unused-else n w q ps k named l m f.next apart user)) r.2 in (t.0, t.1, tt)

-- who holds, holds on
module _ {E : Type 0} (l : ℕ) (v : View E) where
  pub learnt-holds : (x : ℕ) → point_at l v.spin ≡ Passing → holds_on l (learnt l Passing x v) ≡ holds_on l v.spin
  learnt-holds x e = ap (λ (b : LockHand). holds_of b.frame) (at-with l v.spin (record (lock_hand_at l v.spin) { frame = record (frame_at l v.spin) { point = Passing; next = x } })) ∙ sym (ap holds_at e)

  pub passed-holds : point_at l v.spin ≡ Passing → holds_on l (passed l v) ≡ holds_on l v.spin
  passed-holds e = ap (λ (b : LockHand). holds_of b.frame) (at-with l v.spin (record (lock_hand_at l v.spin) { frame = at_point (frame_at l v.spin) Holding })) ∙ sym (ap holds_at e)
