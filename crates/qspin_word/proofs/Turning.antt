-- A step on a spin word that keeps the lock's own facts is one that the host lets a pass make.
use Rattle.std.proofs.Common.{◌≡◌, ℕ, zero, suc, ◌∷◌, [], ◌+◌, ◌<◌, List, length, map, get_or, set, Some, sym, refl, ap, ◌∙◌, subst, arith}
use mathlib.Core.Option.{some, some-injective, some-ne-none, none}
use mathlib.Core.Logic.{dite}
use native.Mathlib.Decide.{ℕ_discrete}
use lib.ListN.{get_elem?}
use Rattle.atomic_table.specs.Table.{Me, keeps, step}
use Rattle.atomic_table.proofs.Lists.{at_map}
use Rattle.word_bits.specs.LockWords.{Unavailable}
use Rattle.word_bits.specs.Objects.{Obj}
use Rattle.word_bits.specs.Histories.{Plan}
use Rattle.lock_core.specs.declared.layout.TheConstants.{SPIN_WORDS}
use Rattle.lock_core.specs.Ops.{word_after, told_by, first_of, second_of}
use Rattle.lock_core.specs.Layout.{SiteWords, part}
use Rattle.lock_core.specs.Regions.{part-at}
use Rattle.lock_core.specs.Totals.{total-two}
use Rattle.lock_core.specs.Views.{SpinPart, spin_part, part_with, hand_of, named_of, is_number}
use Rattle.lock_core.specs.Sites.{SiteKept}
use Rattle.lock_core.specs.Spins.{SpinsKept, SpinGoes, SpinsMove, SpinFrees, spun}
use Rattle.lock_core.specs.Moves.{Goes, Lets}
use Rattle.lock_core.proofs.HandLaws.{is_number-here}
use Rattle.qspin_word.specs.Allows.{AreNumbered, SpinAllows, SpunBy}
use Rattle.qspin_word.specs.Types.{Op, View, SpinHand}

at_view : {E : Type 0} (vs : List (View E)) (j : ℕ) (p : SpinPart) → get_elem? (map spin_part vs) j ≡ some p → (v : View E) × (get_elem? vs j ≡ some v) × (spin_part v ≡ p)
at_view [] j p at = absurd (some-ne-none p (sym at))
at_view (v ∷ vs) zero p at = (v, refl, some-injective (spin_part v) p at)
at_view (v ∷ vs) (suc j) p at = at_view vs j p at

-- the site's facts say so
pub numbers : {E Call : Type 0} (o : Obj Call) (unavailable : Unavailable) (size : ℕ) (k : Plan) (w : SiteWords) (vs : List (View E)) → SiteKept o unavailable size k w (map hand_of vs) → AreNumbered (length k) (map spin_part vs)
numbers {E} o unavailable size k w vs r = record {
  most = r.laid.small.tasks;
  few = few;
  apart = λ i j p q t at at' mine theirs. dite (ℕ_discrete i j) (λ e. e) (λ not. let v = at_view vs i p at in let u = at_view vs j q at' in
      let a : named_of t v.0.hand ≡ 1 = ap (is_number t) (ap (λ (x : SpinPart). x.task) v.2 ∙ mine) ∙ is_number-here t in
      let b : named_of t u.0.hand ≡ 1 = ap (is_number t) (ap (λ (x : SpinPart). x.task) u.2 ∙ theirs) ∙ is_number-here t in
      let two = total-two (named_of t) (map hand_of vs) i j v.0.hand u.0.hand (at_map hand_of vs i v.0 v.1) (at_map hand_of vs j u.0 u.1) not in
      let l = (r.balances.named t (let a = few i p at t mine in let s = r.laid.small.tasks in omega (arith, a, s))).1 in absurd (omega (arith, a, b, two, l)));
}
  where
    few : (j : ℕ) (p : SpinPart) → get_elem? (map spin_part vs) j ≡ some p → (t : ℕ) → p.task ≡ Some t → t < length k
    few j p at t task = let v = at_view vs j p at in ((r.each j v.0.hand (at_map hand_of vs j v.0 v.1)).mine t (ap (λ (x : SpinPart). x.task) v.2 ∙ task)).0

module _ {E : Type 0} (holds : List ℕ → List (View E) → Type 0) (moves : ℕ → List ℕ → List (View E) → List ℕ → List (View E) → Type 0) (first locks tasks l : ℕ) (may_free : View E → Type 0)
    (kept : (ws : List ℕ) (vs : List (View E)) → holds ws vs → SpinsKept locks (part first SPIN_WORDS ws) (map spin_part vs))
    (numbered : (ws : List ℕ) (vs : List (View E)) → holds ws vs → AreNumbered tasks (map spin_part vs))
    (spins : (ws : List ℕ) (vs : List (View E)) (id l i n : ℕ) (v : View E) (s : SpinHand) → holds ws vs → get_elem? vs id ≡ some v → l < locks → i < SPIN_WORDS → SpinGoes (v.steps + 1) l v.spin s → (SpinFrees l v.spin s → may_free v)
    → SpinsMove locks id (part first SPIN_WORDS ws) (map spin_part vs) (set (part first SPIN_WORDS ws) i n) (set (map spin_part vs) id (part_with v s)) → Goes holds moves id ws vs (set ws (first + i) n) (set vs id (spun v s)))
    (less : l < locks) where
  lets-there : (slots id i : ℕ) (me : Me (Unit {0}) (View E)) (op : Op) (after : ℕ → SpinHand) (tells : ℕ → Type 0) → i < SPIN_WORDS → ((n : ℕ) → SpinFrees l me.0.spin (after n) → may_free me.0) → SpinAllows locks tasks l id me.0 i op after tells
      → Lets holds moves slots id me (first + i) op (λ n. SpunBy after tells (step slots (first + i) (first_of op) (second_of op) none) me (told_by op n))
  lets-there slots id i me op after tells within may allows s h _ at small = let n : ℕ = get_or s.words (first + i) 0 in let v = me.0 in let w : List ℕ = part first SPIN_WORDS s.words in let x : ℕ = get_or w i 0 in let is : x ≡ n = part-at s.words first SPIN_WORDS i within in let k = kept s.words s.views h in
      let t = allows w k.0 (map spin_part s.views) k.1 (numbered s.words s.views h) (at_map spin_part s.views id v at) (subst (λ (z : ℕ). z < 18446744073709551616) (sym is) small) in (
        spun v (after (told_by op n)),
        keeps,
        tt,
        spins s.words s.views id l i (word_after op n) v (after (told_by op n)) h at less within (subst (λ (z : ℕ). SpinGoes (v.steps + 1) l v.spin (after (told_by op z))) is t.1) (may (told_by op n))
            (subst (λ (z : ℕ). SpinsMove locks id w (map spin_part s.views) (set w i (word_after op z)) (set (map spin_part s.views) id (part_with v (after (told_by op z))))) is t.0),
        refl,
        ((refl, refl), subst (λ (z : ℕ). tells (told_by op z)) is t.2),
      )

  -- at a place that is counted from the first spin word
  pub lets : (slots id at i : ℕ) (me : Me (Unit {0}) (View E)) (op : Op) (after : ℕ → SpinHand) (tells : ℕ → Type 0) → at ≡ first + i → i < SPIN_WORDS → ((n : ℕ) → SpinFrees l me.0.spin (after n) → may_free me.0) → SpinAllows locks tasks l id me.0 i op after tells
      → Lets holds moves slots id me at op (λ n. SpunBy after tells (step slots at (first_of op) (second_of op) none) me (told_by op n))
  lets slots id at i me op after tells is within may allows = subst (λ (z : ℕ). Lets holds moves slots id me z op (λ n. SpunBy after tells (step slots z (first_of op) (second_of op) none) me (told_by op n))) (sym is) (lets-there slots id i me op after tells within may allows)
