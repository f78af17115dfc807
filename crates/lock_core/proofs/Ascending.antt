-- The places of records say in what order they were stored.
use Rattle.std.proofs.Common.{◌≡◌, ◌≢◌, ℕ, zero, suc, ◌+◌, ◌<◌, ◌≤◌, ◌⊎◌, inl, inr, ⊎_elim, not, List, [], ◌∷◌, length, drop, get_or, set, slice_get, refl, sym, ap, ◌∙◌, subst, arith}
use Rattle.std.proofs.lemmas.List.{length-drop, get_or-set_other}
use mathlib.Core.Logic.{dite}
use native.Mathlib.Decide.{ℕ_discrete}
use Rattle.word_bits.specs.RecWord.{rec_word, kind_of}
use Rattle.word_bits.specs.Objects.{Obj, IsObjectReply}
use Rattle.word_bits.specs.Histories.{Plan, changes}
use Rattle.lock_core.specs.Plans.{calls_in, start}
use Rattle.lock_core.specs.Layout.{SiteWords, site}
use Rattle.lock_core.specs.Linear.{AppliesCall, TakesEffect, IsLinearizationPoint, IsSimulationStep, LinearizesTo}
use Rattle.lock_core.specs.Pasts.{Tail}
use Rattle.lock_core.specs.Records.{bit, row}
use Rattle.lock_core.specs.SiteStated.{IsNew}
use Rattle.lock_core.proofs.Opening.{zero-at}
use Rattle.lock_core.proofs.Linearizing.{same-place, one-last, rest-last}
use Rattle.lock_core.proofs.Reading.{rec_word-some}
use Rattle.lock_core.proofs.RecordLaws.{changes-is}
use Rattle.lock_core.proofs.RowLaws.{same-some, some-inside}
use Rattle.lock_core.specs.Orders.{record_in, IsServed, PlacesFollowLinearizationPoints}
use Rattle.lock_core.specs.Types.{CallWords, Rec, Reply, Good, Num, Refused, MapErr, AccErr, Busy, Intr, Sent, Hand, Moment}

object-kind : (r : Reply) → IsObjectReply r → kind_of r ≤ 5
object-kind Good i = omega arith
object-kind (Num n) i = omega arith
object-kind (Refused e) i = omega arith
object-kind MapErr i = omega arith
object-kind AccErr i = omega arith
object-kind (Busy w) i = absurd i
object-kind Intr i = absurd i
object-kind Sent i = absurd i

-- each call has a place of its own among all records
pub start-same : {X : Type 0} (xss : List (List X)) (t u c d : ℕ) → c < length (row xss t) → d < length (row xss u) → start xss t + c ≡ start xss u + d → (t ≡ u) × (c ≡ d)
start-same [] t u c d l m e = absurd (omega (arith, l))
start-same (xs ∷ xss) zero zero c d l m e = (refl, omega (arith, e))
start-same (xs ∷ xss) zero (suc u) c d l m e = absurd (omega (arith, l, e))
start-same (xs ∷ xss) (suc t) zero c d l m e = absurd (omega (arith, m, e))
start-same (xs ∷ xss) (suc t) (suc u) c d l m e = let r = start-same xss t u c d l m (omega (arith, e)) in (ap suc r.0, r.1)

-- a list that is set at one place has something else than 0 there only where it had it before, or where it is set
pub set-at : (xs : List ℕ) (i j x : ℕ) → get_or (set xs i x) j 0 ≢ 0 → ((j ≡ i) × (get_or (set xs i x) j 0 ≡ x)) ⊎ ((j ≢ i) × (get_or (set xs i x) j 0 ≡ get_or xs j 0))
set-at xs i j x some_it = dite (ℕ_discrete j i) (λ is. inl (is, here xs i j x is some_it)) (λ not_it. inr (not_it, get_or-set_other xs i j x 0 not_it))
  where
    here : (xs : List ℕ) (i j x : ℕ) → j ≡ i → get_or (set xs i x) j 0 ≢ 0 → get_or (set xs i x) j 0 ≡ x
    here [] i j x is n = absurd (n (none j))
      where
        none : (j : ℕ) → get_or {A = ℕ} [] j 0 ≡ 0
        none zero = refl
        none (suc j) = refl
    here (y ∷ xs) zero zero x is n = refl
    here (y ∷ xs) zero (suc j) x is n = absurd (omega (arith, is))
    here (y ∷ xs) (suc i) zero x is n = absurd (omega (arith, is))
    here (y ∷ xs) (suc i) (suc j) x is n = here xs i j x (omega (arith, is)) n

module _ {Call : Type 0} (o : Obj Call) (size : ℕ) (k : Plan) where
  -- a call that isn't busy, interrupted or a signal acts
  acts : (h : Hand) (w : CallWords) (r : Rec) (reply : Reply) (n : ℕ) (s : o.State) (n' : ℕ) (s' : o.State) → kind_of reply ≤ 5 → TakesEffect o h w r reply n s n' s' → AppliesCall o h w r n s n' s'
  acts h w r Good n s n' s' l a = a
  acts h w r (Num m) n s n' s' l a = a
  acts h w r (Refused e) n s n' s' l a = a
  acts h w r MapErr n s n' s' l a = a
  acts h w r AccErr n s n' s' l a = a
  acts h w r (Busy m) n s n' s' l a = absurd (omega (arith, l))
  acts h w r Intr n s n' s' l a = absurd (omega (arith, l))
  acts h w r Sent n s n' s' l a = absurd (omega (arith, l))

  -- the count never falls
  rises-by : (h : Hand) (w : CallWords) (r : Rec) (reply : Reply) (n : ℕ) (s : o.State) (n' : ℕ) (s' : o.State) → TakesEffect o h w r reply n s n' s' → n ≤ n'
  rises-by h w r Good n s n' s' a = let c = a.counts in omega (arith, c)
  rises-by h w r (Num m) n s n' s' a = let c = a.counts in omega (arith, c)
  rises-by h w r (Refused e) n s n' s' a = let c = a.counts in omega (arith, c)
  rises-by h w r MapErr n s n' s' a = let c = a.counts in omega (arith, c)
  rises-by h w r AccErr n s n' s' a = let c = a.counts in omega (arith, c)
  rises-by h w r (Busy m) n s n' s' a = let c = a.0 in omega (arith, c)
  rises-by h w r Intr n s n' s' a = let c = a.0 in omega (arith, c)
  rises-by h w r Sent n s n' s' a = let c = a.0 in omega (arith, c)

  abbrev Words : Moment → SiteWords
  Words m = site k m.words

  abbrev Goes : Moment → Moment → ℕ → o.State → ℕ → o.State → Type 0
  Goes x y n s n' s' = IsSimulationStep o k (Words x) (Words y) x.hands x.steps y.steps n s n' s'

  rises : (x y : Moment) (n : ℕ) (s : o.State) (n' : ℕ) (s' : o.State) → Goes x y n s n' s' → n ≤ n'
  rises x y n s n' s' g = ⊎_elim (λ same. let e = same.1 in omega (arith, e)) (λ (t : IsLinearizationPoint o k (Words x) (Words y) x.hands x.steps y.steps n s n' s'). rises-by t.hand t.words t.rec t.rec.reply n s n' s' t.effect) g

  -- what each call that held has as its place, once it is recorded
  abbrev Below : Moment → ℕ → Type 0
  Below m n = (t c : ℕ) (w : CallWords) (r : Rec) → IsServed k m t c w r → r.k + bit (changes o w) ≤ n

  below-step : (x y : Moment) (n : ℕ) (s : o.State) (n' : ℕ) (s' : o.State) → Goes x y n s n' s' → Below x n → Below y n'
  below-step x y n s n' s' g below t c w r is = let up = rises x y n s n' s' g in ⊎_elim
      (λ (same : ((Words y).recs ≡ (Words x).recs) × (n' ≡ n) × (s' ≡ s)). let l = below t c w r (record { planned = is.planned; recorded = ap (λ (z : List ℕ). get_or z (start k t + c) 0) (sym same.0) ∙ is.recorded; fits = is.fits; served = is.served }) in omega (arith, l, up))
      (λ (q : IsLinearizationPoint o k (Words x) (Words y) x.hands x.steps y.steps n s n' s').
      let now : get_or (set (Words x).recs (start k q.task + q.hand.done) (rec_word q.rec)) (start k t + c) 0 ≡ rec_word r = ap (λ (z : List ℕ). get_or z (start k t + c) 0) (sym q.stored) ∙ is.recorded in
      ⊎_elim
      (λ (mine : (start k t + c ≡ start k q.task + q.hand.done) × (get_or (set (Words x).recs (start k q.task + q.hand.done) (rec_word q.rec)) (start k t + c) 0 ≡ rec_word q.rec)).
      let alike = same-place r q.rec is.fits q.fits (sym now ∙ mine.1) in let kind = object-kind r.reply is.served in let kinds = alike.1 in let place = alike.0 in
      let a = acts q.hand q.words q.rec q.rec.reply n s n' s' (omega (arith, kind, kinds)) q.effect in
      let own = start-same k t q.task c q.hand.done (some-inside (row k t) c w is.planned) (some-inside (row k q.task) q.hand.done q.words q.planned) mine.0 in
      let words : w ≡ q.words = same-some w q.words (sym is.planned ∙ ((λ i. slice_get (row k (own.0 i)) (own.1 i)) ∙ q.planned)) in
      let b : bit (changes o w) ≡ bit (not (o.reads a.call)) = ap (λ (z : CallWords). bit (changes o z)) words ∙ ap bit (changes-is o q.words a.call a.is) in let at = a.place in let more = a.counts in omega (arith, b, at, more, place))
      (λ (other : (start k t + c ≢ start k q.task + q.hand.done) × (get_or (set (Words x).recs (start k q.task + q.hand.done) (rec_word q.rec)) (start k t + c) 0 ≡ get_or (Words x).recs (start k t + c) 0)).
      let l = below t c w r (record { planned = is.planned; recorded = sym other.1 ∙ now; fits = is.fits; served = is.served }) in omega (arith, l, up))
      (set-at (Words x).recs (start k q.task + q.hand.done) (start k t + c) (rec_word q.rec) (λ e. rec_word-some r (sym now ∙ e)))) g

  -- what was recorded since
  abbrev Above : Moment → Moment → ℕ → Type 0
  Above early m n = (t c : ℕ) (w : CallWords) (r : Rec) → record_in k early t c ≡ 0 → IsServed k m t c w r → n ≤ r.k

  above-step : (early x y : Moment) (low n : ℕ) (s : o.State) (n' : ℕ) (s' : o.State) → Goes x y n s n' s' → low ≤ n → Above early x low → Above early y low
  above-step early x y low n s n' s' g least above t c w r none is = ⊎_elim
      (λ (same : ((Words y).recs ≡ (Words x).recs) × (n' ≡ n) × (s' ≡ s)). above t c w r none (record { planned = is.planned; recorded = ap (λ (z : List ℕ). get_or z (start k t + c) 0) (sym same.0) ∙ is.recorded; fits = is.fits; served = is.served }))
      (λ (q : IsLinearizationPoint o k (Words x) (Words y) x.hands x.steps y.steps n s n' s').
      let now : get_or (set (Words x).recs (start k q.task + q.hand.done) (rec_word q.rec)) (start k t + c) 0 ≡ rec_word r = ap (λ (z : List ℕ). get_or z (start k t + c) 0) (sym q.stored) ∙ is.recorded in
      ⊎_elim
      (λ (mine : (start k t + c ≡ start k q.task + q.hand.done) × (get_or (set (Words x).recs (start k q.task + q.hand.done) (rec_word q.rec)) (start k t + c) 0 ≡ rec_word q.rec)).
      let alike = same-place r q.rec is.fits q.fits (sym now ∙ mine.1) in let kind = object-kind r.reply is.served in let kinds = alike.1 in let place = alike.0 in
      let a = acts q.hand q.words q.rec q.rec.reply n s n' s' (omega (arith, kind, kinds)) q.effect in let at = a.place in omega (arith, at, place, least))
      (λ (other : (start k t + c ≢ start k q.task + q.hand.done) × (get_or (set (Words x).recs (start k q.task + q.hand.done) (rec_word q.rec)) (start k t + c) 0 ≡ get_or (Words x).recs (start k t + c) 0)).
      above t c w r none (record { planned = is.planned; recorded = sym other.1 ∙ now; fits = is.fits; served = is.served }))
      (set-at (Words x).recs (start k q.task + q.hand.done) (start k t + c) (rec_word q.rec) (λ e. rec_word-some r (sym now ∙ e)))) g

  module _ (new : Moment) (is_new : IsNew o size k new) where
    below-all : (m : Moment) (h : List Moment) (n : ℕ) (s : o.State) → LinearizesTo o size k (m ∷ h) n s → Tail (new ∷ []) (m ∷ h) → Below m n
    below-all m [] n s linear began = λ t c w r is. let first_is = one-last new m began in let none : record_in k m t c ≡ 0 = ap (λ (z : Moment). record_in k z t c) first_is ∙ (ap (λ (z : List ℕ). get_or z (start k t + c) 0) is_new.recorded ∙ zero-at (calls_in k) (start k t + c)) in absurd (rec_word-some r (sym is.recorded ∙ none))
    below-all y (x ∷ h) n s linear began = let q = linear.1 in below-step x y q.0 q.1 n s q.2 (below-all x h q.0 q.1 q.3 (rest-last new y x h began))

    -- the count at an earlier moment, and what was recorded since
    ago : (i : ℕ) (late early : Moment) (until before : List Moment) (n : ℕ) (s : o.State) → LinearizesTo o size k (late ∷ until) n s → Tail (new ∷ []) (late ∷ until) → drop i (late ∷ until) ≡ early ∷ before → (low : ℕ) × (low ≤ n) × Below early low × Above early late low
    ago zero late early until before n s linear began e = let same : late ≡ early = ap (λ (z : List Moment). head z) e in
        (n, omega arith, subst (λ (z : Moment). Below z n) same (below-all late until n s linear began), λ t c w r none is. absurd (rec_word-some r (sym is.recorded ∙ (ap (λ (z : Moment). record_in k z t c) same ∙ none))))
      where
        head : List Moment → Moment
        head [] = late
        head (x ∷ xs) = x
    ago (suc i) late early [] before n s linear began e = absurd (let l = ap length e in omega (arith, l, length-drop (suc i) (late ∷ [])))
    ago (suc i) late early (x ∷ h) before n s linear began e = let q = linear.1 in let t = ago i x early h before q.0 q.1 q.3 (rest-last new late x h began) e in let up = rises x late q.0 q.1 n s q.2 in let l = t.1 in
        (t.0, omega (arith, up, l), t.2, above-step early x late t.0 q.0 q.1 n s q.2 t.1 t.3)

pub keeps_step_order : {Call : Type 0} (o : Obj Call) (size : ℕ) → PlacesFollowLinearizationPoints o size
keeps_step_order o size k new past linear is_new began n early late before until is cut t c u d v w q r first none second =
    let a = ago o size k new is_new n late early until before linear.0 linear.1 (subst (λ (z : List Moment). LinearizesTo o size k z linear.0 linear.1) is linear.2) (subst (Tail (new ∷ [])) is began) (ap (drop n) (sym is) ∙ cut) in
    let x = a.2 t c v q first in let y = a.3 u d w r none second in omega (arith, x, y)
