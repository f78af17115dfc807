-- What each step on a spin word makes of the locks' own facts.
use Rattle.std.proofs.Common.{◌≡◌, ℕ, zero, suc, ◌+◌, ◌-◌, ◌/◌, ◌%◌, ◌==◌, ◌<◌, ◌≤◌, Bool, true, false, List, map, get_or, set, Some, sym, refl, ap, ◌∙◌, subst, arith, eq-eqb, ne_eqb, eqb, ltb, if◌then◌else◌, inl, inr, Option, ◌⊎◌, ⊎_elim}
use Rattle.std.specs.Prelude.{bit_or}
use mathlib.Core.Option.{some}
use Rattle.std.proofs.lemmas.Bool.{eqb-true, eqb-false, ltb-true, ltb-false}
use mathlib.Core.Logic.{dite}
use native.Mathlib.Decide.{ℕ_discrete}
use lib.ListN.{get_elem?}
use Rattle.atomic_table.proofs.Lists.{at_map, set_again}
use Rattle.lock_core.specs.Totals.{total, total-at}
use Rattle.lock_core.specs.Views.{SpinPart, spin_part, part_with}
use Rattle.lock_core.specs.LockHands.{lock_hand_at, frame_at, with_lock_hand, RestsAt, RestsEverywhere, at-with, at-else}
use Rattle.lock_core.specs.SpinFrames.{stands, uses, holds_at, takes_of, undoes_of, holds_of}
use Rattle.lock_core.specs.SpinQueues.{LockKept}
use Rattle.lock_core.specs.Laws.Spin.{lock-of}
use Rattle.lock_core.specs.Spins.{SpinFacts, SpinGoes, SpinsMove, OwnNodes, LockIn, tail_in, QueueMoves, TakesFrom, ComesTo, LeavesBy, frame_on, word_in, word_at, next_in, locked_in, holds_on}
use Rattle.qspin_word.specs.Allows.{SpinAllows}
use Rattle.qspin_word.specs.SpinWordHands.{at_point, framed, went, taken, took_at, saw_word, tried, looked, sought, grabbed, freed, pended, undone, awaited, turned}
use Rattle.qspin_word.specs.Types.{Load, Add, Sub, Or, And, Exchange, View, SpinHand, LockHand, Frame, Saw, Point, Out, Undoing, Pending, Taking, Trying, Head, Ready, Passing, Holding}
use Rattle.qspin_word.proofs.Bits.{or_pending, or_pending_again, and_pending}
use Rattle.qspin_word.proofs.WordSteps as step
use Rattle.qspin_word.proofs.OwnNodes.{own-word, own-still}
use Rattle.qspin_word.proofs.Regions.{goes-word, goes-look, queue-stays, stays-in}

pub by_test : (b : Bool) (P : Bool → Type 0) → (b ≡ true → P true) → (b ≡ false → P false) → P b
by_test true P yes_case no_case = yes_case refl
by_test false P yes_case no_case = no_case refl

some-injective' : (a b : Saw) → Some a ≡ Some b → a ≡ b
some-injective' a b e = cc

-- who takes the lock has taken one once more
pub counts-took : (l : ℕ) (s : SpinHand) (at : ℕ) (to : Point) → holds_on l s ≡ 0 → holds_at to ≡ 1 → SpinGoes at l s (took_at l s at to)
counts-took l s at to out holds = let e = at-with l s (taken l s at to) in let h : holds_on l (took_at l s at to) ≡ 1 = ap (λ (b : LockHand). holds_of b.frame) e ∙ holds in record {
  entries = omega (arith, out, h);
  takes = λ _ _. (ap (λ (b : LockHand). b.took) e, ap (λ (b : LockHand). b.from) e);
  keeps = λ less. absurd (omega (arith, out, h, less));
  saw = λ x e. inl e;
  others = λ m apart. at-else l m s (taken l s at to) apart;
}

-- in a table with one lock, who is at no point of this one is at no point of any
pub rests-alone : (n l : ℕ) (s : SpinHand) → l < n → n ≡ 1 → RestsAt l s → ((m : ℕ) → n ≤ m → RestsAt m s) → RestsEverywhere s
rests-alone n l s within one out few zero = subst (λ (m : ℕ). RestsAt m s) (let e : l ≡ 0 = omega (arith, within, one) in e) out
rests-alone n l s within one out few (suc m) = few (suc m) (omega (arith, one))

-- no other step changes that number
pub counts-idle : (at l : ℕ) (s : SpinHand) (f : Frame) (saw : Option Saw) → holds_of f ≤ holds_on l s → ((x : Saw) → saw ≡ Some x → (s.saw ≡ Some x) ⊎ (x.step ≡ at)) → SpinGoes at l s (record (framed l s f) { saw = saw })
counts-idle at l s f saw less sees = let b : LockHand = record (lock_hand_at l s) { frame = f } in let e = at-with l s b in let h : holds_on l (framed l s f) ≡ holds_of f = ap (λ (b : LockHand). holds_of b.frame) e in record {
  entries = omega (arith, less, h);
  takes = λ out holds. absurd (omega (arith, less, h, out, holds));
  keeps = λ _. (ap (λ (b : LockHand). b.took) e, ap (λ (b : LockHand). b.from) e);
  saw = sees;
  others = λ m apart. at-else l m s b apart;
}

-- nor does a look
pub counts-look : (at l : ℕ) (s : SpinHand) (saw : Option Saw) → ((x : Saw) → saw ≡ Some x → (s.saw ≡ Some x) ⊎ (x.step ≡ at)) → SpinGoes at l s (record s { saw = saw })
counts-look at l s saw sees = record { entries = omega arith; takes = λ out holds. absurd (omega (arith, out, holds)); keeps = λ _. (refl, refl); saw = sees; others = λ m apart. refl }

-- it has the word as seen at this step, at no point of the lock
pub seen-word : (word at l : ℕ) (s : SpinHand) (x : Saw) → RestsAt l s → Some (record { word = word; step = at }) ≡ Some x → (s.saw ≡ Some x) ⊎ ((x.word ≡ word) × RestsAt l s)
seen-word word at l s x out e = inr (let i : record { word = word; step = at } ≡ x = some-injective' (record { word = word; step = at }) x e in sym (ap (λ (z : Saw). z.word) i), out)

pub seen-at : (word at : ℕ) (s : SpinHand) (x : Saw) → Some (record { word = word; step = at }) ≡ Some x → (s.saw ≡ Some x) ⊎ (x.step ≡ at)
seen-at word at s x e = inr (let i : record { word = word; step = at } ≡ x = some-injective' (record { word = word; step = at }) x e in sym (ap (λ (z : Saw). z.step) i))

held-takes : (p : Point) (word : ℕ) → holds_at p ≡ 1 → TakesFrom p word
held-takes Passing word e = tt
held-takes Holding word e = tt
held-takes _ word e = absurd (omega arith)

-- it stays where it is
pub stays-at : (p : Point) (word : ℕ) → ComesTo p p word
stays-at Undoing word = tt
stays-at Pending word = tt
stays-at Taking word = tt
stays-at Ready word = tt
stays-at _ word = tt

to-holding : (p : Point) (word : ℕ) → ComesTo p Holding word
to-holding Undoing word = tt
to-holding Pending word = tt
to-holding Taking word = tt
to-holding Head word = tt
to-holding Ready word = tt
to-holding _ word = tt

-- a step that ends no hold
pub ends-none : (l : ℕ) (s g : SpinHand) (may : Type 0) → holds_on l s ≡ 0 → (holds_on l s ≡ 1) × (holds_on l g ≡ 0) → may
ends-none l s g may out ends = let a = ends.0 in absurd (omega (arith, a, out))

pub still-holds : (l : ℕ) (s g : SpinHand) (may : Type 0) → holds_on l g ≡ holds_on l s → (holds_on l s ≡ 1) × (holds_on l g ≡ 0) → may
still-holds l s g may same ends = let a = ends.0 in let b = ends.1 in absurd (omega (arith, a, b, same))

module _ {E : Type 0} (n l : ℕ) (less : l < n) (most : n ≤ 8) (v : View E) (id : ℕ) where
  abbrev pub f : Frame
  f = frame_at l v.spin

  eight : l < 8
  eight = omega (arith, less, most)

  -- what it has to do with the lock, with another frame
  abbrev pub moved : Frame → LockHand
  moved g = record (lock_hand_at l v.spin) { frame = g }

  -- what a step is about: the words, the queues before, and the pass's place
  module _ (w : List ℕ) (q : ℕ → List ℕ) (ps : List SpinPart) (k : SpinFacts n w q ps) (at : get_elem? ps id ≡ some (spin_part v)) where
    abbrev pub fs : List Frame
    fs = map (frame_on l) ps

    abbrev pub word : ℕ
    word = word_in w l

    -- the step leaves these words and this spin hand
    abbrev pub After : List ℕ → SpinHand → Type 0
    After w' s = SpinsMove n id w ps w' (set ps id (part_with v s)) × SpinGoes (v.steps + 1) l v.spin s

    pub here : (p : Point) → f.point ≡ p → get_elem? fs id ≡ some (at_point f p)
    here p e = at_map (frame_on l) ps id (spin_part v) at ∙ ap (λ (z : Point). some (at_point f z)) e

    pub kept : LockIn w q ps l
    kept = lock-of n w q ps k l less

    -- a load that leaves the frame
    looks-on : (i : ℕ) (saw : Option Saw) → ((x : Saw) → saw ≡ Some x → (v.spin.saw ≡ Some x) ⊎ ((x.word ≡ word) × RestsAt l v.spin)) → ((x : Saw) → saw ≡ Some x → (v.spin.saw ≡ Some x) ⊎ (x.step ≡ v.steps + 1)) → After (set w i (get_or w i 0)) (record v.spin { saw = saw })
    looks-on i saw seen then_step = (
      goes-look n l less w q q ps id (spin_part v) (record v.spin { saw = saw }) f k refl (λ m apart. refl) (λ m apart. refl) seen at (own-still (spin_part v) (record v.spin { saw = saw }) (λ m used. (used, refl)) (omega arith) (k.own id (spin_part v) at)) f.point refl (queue-stays (stands f.point) f.code (tail_in word) f.found (q l)) (held-takes f.point word) (stays-at f.point word) i (stays-in l (stands f.point) w (q l) (set w i (get_or w i 0)))
          (subst (λ (z : List Frame). LockKept word (next_in w) (locked_in w) (q l) z) (sym (set_again fs id f (at_map (frame_on l) ps id (spin_part v) at))) kept),
      counts-look (v.steps + 1) l v.spin saw then_step,
    )

    -- one that keeps nothing, and one of the word, which is kept
    pub looks-still : (i : ℕ) → After (set w i (get_or w i 0)) v.spin
    looks-still i = looks-on i v.spin.saw (λ x e. inl e) (λ x e. inl e)

    looks-seen : RestsAt l v.spin → After (set w (word_at l) word) (saw_word v.spin word (v.steps + 1))
    looks-seen out = looks-on (word_at l) (Some (record { word = word; step = v.steps + 1 })) (λ x. seen-word word (v.steps + 1) l v.spin x out) (seen-at word (v.steps + 1) v.spin)

    -- a step on the word, from and to a point at which it uses no node
    pub turns-word : (x : ℕ) (g : Frame) (saw : Option Saw) (p : Point) → f.point ≡ p → uses p ≡ false → stands p ≡ false → uses g.point ≡ false → stands g.point ≡ false → holds_of g ≤ holds_at p → ((y : Saw) → saw ≡ Some y → (v.spin.saw ≡ Some y) ⊎ ((y.word ≡ word) × RestsAt l v.spin)) → ((y : Saw) → saw ≡ Some y → (v.spin.saw ≡ Some y) ⊎ (y.step ≡ v.steps + 1)) → (holds_of g ≡ 1 → TakesFrom p word) → ComesTo p g.point word
        → LockKept x (next_in w) (locked_in w) (q l) (set fs id g) → After (set w (word_at l) x) (record (framed l v.spin g) { saw = saw })
    turns-word x g saw p e free out free' out' less_held seen then_step takes comes lock = (
      goes-word n l less w q q ps id (spin_part v) (record (framed l v.spin g) { saw = saw }) g k (ap (λ (b : LockHand). b.frame) (at-with l v.spin (moved g))) (λ m apart. at-else l m v.spin (moved g) apart) (λ m apart. refl) seen at
          (own-seen g saw (own-word l (spin_part v) (moved g) (ap uses e ∙ free) free' (k.own id (spin_part v) at))) p e
          (subst (λ (b : Bool × Bool). QueueMoves b.0 b.1 f.code (tail_in word) f.found g.found (q l) (q l)) (λ i. (sym out i, sym out' i)) refl) takes comes eight x (subst (λ (b : Bool). LeavesBy l b (stands g.point) w (q l) (set w (word_at l) x)) (sym out) tt) lock,
      counts-idle (v.steps + 1) l v.spin g saw (let h = ap holds_at e in omega (arith, h, less_held)) then_step,
    )
      where
        own-seen : (g : Frame) (saw : Option Saw) → OwnNodes (record (spin_part v) { spin = framed l v.spin g }) → OwnNodes (record (spin_part v) { spin = record (framed l v.spin g) { saw = saw } })
        own-seen g saw o = own-still (record (spin_part v) { spin = framed l v.spin g }) (record (framed l v.spin g) { saw = saw }) (λ m used. (used, refl)) (omega arith) o

    -- a step on the word that takes the lock
    pub takes-word : (x : ℕ) (p : Point) → f.point ≡ p → uses p ≡ false → stands p ≡ false → holds_at p ≡ 0 → TakesFrom p word → LockKept x (next_in w) (locked_in w) (q l) (set fs id (at_point f Holding)) → After (set w (word_at l) x) (took_at l v.spin (v.steps + 1) Holding)
    takes-word x p e unused out free from lock = let b : LockHand = taken l v.spin (v.steps + 1) Holding in (
      goes-word n l less w q q ps id (spin_part v) (took_at l v.spin (v.steps + 1) Holding) (at_point f Holding) k (ap (λ (b : LockHand). b.frame) (at-with l v.spin b)) (λ m apart. at-else l m v.spin b apart) (λ m apart. refl) (λ x e. inl e) at
          (own-still (record (spin_part v) { spin = with_lock_hand l v.spin b }) (took_at l v.spin (v.steps + 1) Holding) (λ m used. (used, refl)) (omega arith) (own-word l (spin_part v) b (ap uses e ∙ unused) refl (k.own id (spin_part v) at))) p e
          (subst (λ (b : Bool). QueueMoves b false f.code (tail_in word) f.found f.found (q l) (q l)) (sym out) refl) (λ _. from) (to-holding p word) eight x (subst (λ (b : Bool). LeavesBy l b false w (q l) (set w (word_at l) x)) (sym out) tt) lock,
      counts-took l v.spin (v.steps + 1) Holding (ap holds_at e ∙ free) refl,
    )

  pub tries : {tasks : ℕ} → f.point ≡ Out → SpinAllows n tasks l id v (word_at l) (Exchange 0 1) (λ x. tried l x v) (λ x. Unit {0})
  tries e w q ps k named at small = let x : ℕ = word_in w l in let t : After w q ps k at (set w (word_at l) (if x == 0 then 1 else x)) (tried l x v) = dite (ℕ_discrete x 0)
      (λ free. subst (λ (b : Bool). After w q ps k at (set w (word_at l) (if b then 1 else x)) (if b then took_at l v.spin (v.steps + 1) Holding else saw_word v.spin x (v.steps + 1))) (sym (eq-eqb x 0 free))
      (takes-word w q ps k at 1 Out e refl refl refl free (step.takes-out (next_in w) (locked_in w) (q l) (map (frame_on l) ps) id f (subst (λ (z : ℕ). LockKept z (next_in w) (locked_in w) (q l) (map (frame_on l) ps)) free (kept w q ps k at)) (here w q ps k at Out e))))
      (λ not. subst (λ (b : Bool). After w q ps k at (set w (word_at l) (if b then 1 else x)) (if b then took_at l v.spin (v.steps + 1) Holding else saw_word v.spin x (v.steps + 1))) (sym (ne_eqb x 0 not))
      (looks-seen w q ps k at e)) in (t.0, t.1, tt)

  pub peeks : {tasks : ℕ} → SpinAllows n tasks l id v (word_at l) Load (λ x. v.spin) (λ x. Unit {0})
  peeks w q ps k named at small = let t = looks-still w q ps k at (word_at l) in (t.0, t.1, tt)

  pub looks : {tasks : ℕ} → f.point ≡ Out → SpinAllows n tasks l id v (word_at l) Load (λ x. looked l x v) (λ x. Unit {0})
  looks e w q ps k named at small = let x : ℕ = word_in w l in let t : After w q ps k at (set w (word_at l) x) (looked l x v) = by_test (eqb x 0) (λ b. After w q ps k at (set w (word_at l) x) (if b then v.spin else saw_word v.spin x (v.steps + 1))) (λ free. looks-still w q ps k at (word_at l)) (λ taken. looks-seen w q ps k at e) in (t.0, t.1, tt)

  -- the pass waits without a node
  pub seeks : {tasks : ℕ} → (f.point ≡ Out) ⊎ (f.point ≡ Trying) → SpinAllows n tasks l id v (word_at l) Load (λ x. sought l v) (λ x. Unit {0})
  seeks which w q ps k named at small = let x : ℕ = word_in w l in let t : After w q ps k at (set w (word_at l) x) (sought l v) = ⊎_elim
      (λ e. turns-word w q ps k at x (at_point f Trying) v.spin.saw Out e refl refl refl refl (omega arith) (λ x e. inl e) (λ x e. inl e) (λ no. absurd (omega arith)) tt (step.tries-on (next_in w) (locked_in w) (q l) (map (frame_on l) ps) id f x Out (inl refl) (kept w q ps k at) (here w q ps k at Out e)))
      (λ e. turns-word w q ps k at x (at_point f Trying) v.spin.saw Trying e refl refl refl refl (omega arith) (λ x e. inl e) (λ x e. inl e) (λ no. absurd (omega arith)) tt (step.tries-on (next_in w) (locked_in w) (q l) (map (frame_on l) ps) id f x Trying (inr refl) (kept w q ps k at) (here w q ps k at Trying e))) which in (t.0, t.1, tt)

  pub grabs : {tasks : ℕ} → f.point ≡ Trying → SpinAllows n tasks l id v (word_at l) (Exchange 0 1) (λ x. grabbed l x v) (λ x. Unit {0})
  grabs e w q ps k named at small = let x : ℕ = word_in w l in let t : After w q ps k at (set w (word_at l) (if x == 0 then 1 else x)) (grabbed l x v) = dite (ℕ_discrete x 0)
      (λ free. subst (λ (b : Bool). After w q ps k at (set w (word_at l) (if b then 1 else x)) (if b then took_at l v.spin (v.steps + 1) Holding else v.spin)) (sym (eq-eqb x 0 free))
      (takes-word w q ps k at 1 Trying e refl refl refl free (step.takes-trying (next_in w) (locked_in w) (q l) (map (frame_on l) ps) id f (subst (λ (z : ℕ). LockKept z (next_in w) (locked_in w) (q l) (map (frame_on l) ps)) free (kept w q ps k at)) (here w q ps k at Trying e))))
      (λ not. subst (λ (b : Bool). After w q ps k at (set w (word_at l) (if b then 1 else x)) (if b then took_at l v.spin (v.steps + 1) Holding else v.spin)) (sym (ne_eqb x 0 not)) (looks-still w q ps k at (word_at l))) in (t.0, t.1, tt)

  -- the holder clears the locked byte: 2 ^ 64 - 1 is added
  pub frees : {tasks : ℕ} → f.point ≡ Holding → SpinAllows n tasks l id v (word_at l) (Sub 1) (λ x. freed l v) (λ x. Unit {0})
  frees e w q ps k named at small = let x : ℕ = word_in w l in let old = here w q ps k at Holding e in let r = kept w q ps k at in let b = r.balanced in let h : 1 ≤ total holds_of (map (frame_on l) ps) = total-at holds_of (map (frame_on l) ps) id (at_point f Holding) old in
      let t = turns-word w q ps k at (x - 1) (at_point f Out) v.spin.saw Holding e refl refl refl refl (omega arith) (λ x e. inl e) (λ x e. inl e) (λ no. absurd (omega arith)) tt (step.frees (next_in w) (locked_in w) (q l) (map (frame_on l) ps) id f x r old) in (
        subst (λ (m : ℕ). SpinsMove n id w ps (set w (word_at l) m) (set ps id (part_with v (freed l v)))) (let m : x - 1 ≡ (x + 18446744073709551615) % 18446744073709551616 = omega arith in m) t.0,
        t.1,
        tt,
      )

  -- the pending bit is set
  pub pends : {tasks : ℕ} → f.point ≡ Out → SpinAllows n tasks l id v (word_at l) (Or 256) (λ x. pended l x v) (λ x. Unit {0})
  pends e w q ps k named at small = let x : ℕ = word_in w l in let old = here w q ps k at Out e in let i : ℕ = word_at l in
      let t : After w q ps k at (set w i (bit_or x 256)) (pended l x v) = by_test (ltb x 256) (λ b. After w q ps k at (set w i (bit_or x 256)) (if b then went l v.spin Pending else if (x / 256) % 2 == 0 then saw_word (went l v.spin Undoing) x (v.steps + 1) else saw_word v.spin x (v.steps + 1)))
      (λ low. let low' = ltb-true x 256 low in subst (λ (m : ℕ). After w q ps k at (set w i m) (went l v.spin Pending)) (sym (or_pending x (omega arith)))
      (turns-word w q ps k at (x + 256) (at_point f Pending) v.spin.saw Out e refl refl refl refl (omega arith) (λ x e. inl e) (λ x e. inl e) (λ no. absurd (omega arith)) (omega arith, omega arith) (step.pends (next_in w) (locked_in w) (q l) (map (frame_on l) ps) id f x low' (kept w q ps k at) old)))
      (λ high. let h = ltb-false x 256 high in by_test (eqb ((x / 256) % 2) 0) (λ b. After w q ps k at (set w i (bit_or x 256)) (if b then saw_word (went l v.spin Undoing) x (v.steps + 1) else saw_word v.spin x (v.steps + 1)))
      (λ unset. let u = eqb-true ((x / 256) % 2) 0 unset in subst (λ (m : ℕ). After w q ps k at (set w i m) (saw_word (went l v.spin Undoing) x (v.steps + 1))) (sym (or_pending x u))
      (turns-word w q ps k at (x + 256) (at_point f Undoing) (Some (record { word = x; step = v.steps + 1 })) Out e refl refl refl refl (omega arith) (λ y. seen-word x (v.steps + 1) l v.spin y e) (seen-at x (v.steps + 1) v.spin) (λ no. absurd (omega arith)) (u, λ none. tail-there w q ps k at h u none) (step.undoes (next_in w) (locked_in w) (q l) (map (frame_on l) ps) id f x h u (kept w q ps k at) old)))
      (λ pending. let u = eqb-false ((x / 256) % 2) 0 pending in subst (λ (m : ℕ). After w q ps k at (set w i m) (saw_word v.spin x (v.steps + 1))) (sym (or_pending_again x (omega arith))) (looks-seen w q ps k at e))) in
      (t.0, t.1, tt)
    where
      tail-there : (w : List ℕ) (q : ℕ → List ℕ) (ps : List SpinPart) (k : SpinFacts n w q ps) → get_elem? ps id ≡ some (spin_part v) → 256 ≤ word_in w l → (word_in w l / 256) % 2 ≡ 0 → word_in w l / 512 ≡ 0 → ⊥
      tail-there w q ps k at high unset none = let b = (kept w q ps k at).balanced in omega arith

  -- the clear of the pending bit
  pub undoes : {tasks : ℕ} → f.point ≡ Undoing → SpinAllows n tasks l id v (word_at l) (And 18446744073709551359) (λ x. undone l v) (λ x. Unit {0})
  undoes e w q ps k named at small = let x : ℕ = word_in w l in let old = here w q ps k at Undoing e in let r = kept w q ps k at in let b = r.balanced in let h : 1 ≤ total undoes_of (map (frame_on l) ps) = total-at undoes_of (map (frame_on l) ps) id (at_point f Undoing) old in
      let t = turns-word w q ps k at (x - 256) (at_point f Out) v.spin.saw Undoing e refl refl refl refl (omega arith) (λ x e. inl e) (λ x e. inl e) (λ no. absurd (omega arith)) tt (step.clears (next_in w) (locked_in w) (q l) (map (frame_on l) ps) id f x r old) in (
        subst (λ (m : ℕ). SpinsMove n id w ps (set w (word_at l) m) (set ps id (part_with v (undone l v)))) (sym (and_pending x small (omega arith))) t.0,
        t.1,
        tt,
      )

  -- a load by the owner of the pending bit
  pub awaits : {tasks : ℕ} → f.point ≡ Pending → SpinAllows n tasks l id v (word_at l) Load (λ x. awaited l x v) (λ x. Unit {0})
  awaits e w q ps k named at small = let x : ℕ = word_in w l in let t : After w q ps k at (set w (word_at l) x) (awaited l x v) = by_test (eqb (x % 256) 0) (λ b. After w q ps k at (set w (word_at l) x) (if b then went l v.spin Taking else v.spin))
      (λ free. turns-word w q ps k at x (at_point f Taking) v.spin.saw Pending e refl refl refl refl (omega arith) (λ x e. inl e) (λ x e. inl e) (λ no. absurd (omega arith)) (eqb-true (x % 256) 0 free) (step.turns (next_in w) (locked_in w) (q l) (map (frame_on l) ps) id f x (eqb-true (x % 256) 0 free) (kept w q ps k at) (here w q ps k at Pending e)))
      (λ held. looks-still w q ps k at (word_at l)) in (t.0, t.1, tt)

  -- the owner of the pending bit takes the lock: 1 - 256 is added
  pub turns : {tasks : ℕ} → f.point ≡ Taking → SpinAllows n tasks l id v (word_at l) (Add 18446744073709551361) (λ x. turned l v) (λ x. Unit {0})
  turns e w q ps k named at small = let x : ℕ = word_in w l in let old = here w q ps k at Taking e in let r = kept w q ps k at in let b = r.balanced in let h : 1 ≤ total takes_of (map (frame_on l) ps) = total-at takes_of (map (frame_on l) ps) id (at_point f Taking) old in
      let t = takes-word w q ps k at (x - 255) Taking e refl refl refl (let m : x % 256 ≡ 0 = omega arith in m) (step.takes-turn (next_in w) (locked_in w) (q l) (map (frame_on l) ps) id f x r old) in (
        subst (λ (m : ℕ). SpinsMove n id w ps (set w (word_at l) m) (set ps id (part_with v (turned l v)))) (let m : x - 255 ≡ (x + 18446744073709551361) % 18446744073709551616 = omega arith in m) t.0,
        t.1,
        tt,
      )
