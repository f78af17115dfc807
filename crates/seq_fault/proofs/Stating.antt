-- The rule that is kept implies what is stated.
use Rattle.std.proofs.Common.{◌≡◌, ◌∙◌, ℕ, zero, suc, ◌+◌, ◌%◌, ◌≤◌, ◌⊎◌, inl, inr, List, [], ◌∷◌, length, map, drop, slice_get, Some, refl, sym, ap, subst, arith}
use Rattle.word_bits.specs.Objects.{Obj}
use Rattle.word_bits.specs.Histories.{Plan}
use Rattle.lock_core.specs.Layout.{site}
use Rattle.lock_core.specs.Pasts.{Instant, moment, Moves, Paced, Ran, Tail}
use Rattle.lock_core.specs.Sites.{SameObject}
use Rattle.lock_core.specs.Totals.{total-at}
use Rattle.lock_core.specs.Views.{hand_of, alone_of, alone_weight}
use Rattle.lock_core.proofs.HandLaws.{false-or-true}
use Rattle.lock_core.proofs.Opening.{fresh-free}
use Rattle.lock_core.proofs.RowLaws.{none-some, same-some}
use Rattle.lock_core.proofs.Stating.{kept-states}
use Rattle.seq_fault.specs.SeqRuled.{V, SeqKept, SeqMoves, never, newest, seq_at, unmarked}
use Rattle.seq_fault.specs.Laws.SeqRuled.{none-alone}
use Rattle.seq_fault.specs.SeqStated.{CountsEnters, IsSeqSite, StaysAtOneWord, holders, seq_of}
use Rattle.seq_fault.specs.Types.{Moment, Watch}
use Rattle.seq_fault.proofs.Stepping.{each-hand}

module _ {Call : Type 0} (o : Obj Call) (size : ℕ) (k : Plan) where
  pub rule-states : (ws : List ℕ) (vs : List V) → SeqKept o size k ws vs → IsSeqSite o size k ws (map hand_of vs)
  rule-states ws vs r = let is = kept-states o never size k (site k ws) (map hand_of vs) r.site_holds in record {
    is_site = is;
    odd = r.parity;
    apart = each-hand vs r.apart;
    quiet = λ even. is.guarded (λ j h at. false-or-true h.writes (λ writes. absurd (let alone = is.writers j h at writes in let p = r.parity in let l = total-at alone_of (map hand_of vs) j h at in let w : alone_of h ≡ 1 = ap alone_weight alone in omega (arith, p, l, w, even))) (λ f. f));
  }

  abbrev Step : Instant Watch → Instant Watch → Type 0
  Step = Moves (SeqKept o size k) (SeqMoves k)

  abbrev nothing : List Moment
  nothing = []

  abbrev show : Instant Watch → Moment
  show = moment unmarked

  -- one step more
  counts-on : (y x : Instant Watch) (h : List (Instant Watch)) → Step x y → CountsEnters (map show (x ∷ h)) → CountsEnters (map show (y ∷ x ∷ h))
  counts-on y x h step so = let before : seq_of (show x) % 2 ≡ holders (show x) = step.1.parity in let after : seq_of (show y) % 2 ≡ holders (show y) = step.2.parity in let e = so.0 in elim step.3.1 [
    | inl same ↦ let s : seq_of (show y) ≡ seq_of (show x) = same.0 in (omega (arith, e, s, before, after), so)
    | inr more ↦ let s : seq_of (show y) ≡ seq_of (show x) + 1 = more in (omega (arith, e, s, before, after), so)
  ]

  counts-all : (run : List (Instant Watch)) → Paced Step run → Tail (newest k ∷ []) (map show run) → CountsEnters (map show run)
  counts-all [] paced began = tt
  counts-all (x ∷ []) paced began = let e = only began in let z = fresh-free k seq_at (omega arith) in let f : seq_of (show x) ≡ 0 = ap seq_of e ∙ z in let g : holders (show x) ≡ 0 = ap holders e in (omega (arith, f, g), tt)
    where
      only : Tail (newest k ∷ []) (show x ∷ []) → show x ≡ newest k
      only (zero, is) = head is
        where
          head : show x ∷ [] ≡ newest k ∷ [] → show x ≡ newest k
          head e = ap first e
            where
              first : List Moment → Moment
              first [] = show x
              first (m ∷ ms) = m
      only (suc n, is) = absurd (gone n is)
        where
          gone : (n : ℕ) → drop n nothing ≡ newest k ∷ [] → ⊥
          gone zero e = let l = ap length e in omega (arith, l)
          gone (suc n) e = let l = ap length e in omega (arith, l)
  counts-all (y ∷ x ∷ h) paced began = counts-on y x h paced.0 (counts-all (x ∷ h) paced.1 (older began))
    where
      older : Tail (newest k ∷ []) (show y ∷ show x ∷ map show h) → Tail (newest k ∷ []) (show x ∷ map show h)
      older (zero, is) = absurd (let l = ap length is in omega (arith, l))
      older (suc n, is) = (n, is)

  pub counts-enters : (past : List Moment) → Ran unmarked (newest k) Step past → CountsEnters past
  counts-enters past r = subst CountsEnters (sym r.1) (counts-all r.0 r.3 (subst (Tail (newest k ∷ [])) r.1 r.2))

  -- what each step does to the word, and to the object while the word is even
  record Turn (x y : Moment) : Type 0 where
    rises : (seq_of y ≡ seq_of x) ⊎ (seq_of y ≡ seq_of x + 1)
    stays : seq_of x % 2 ≡ 0 → SameObject (site k x.words) (site k y.words)

  turns : (x y : Instant Watch) → Step x y → Turn (show x) (show y)
  turns x y step = record {
    rises = elim step.3.1 [ inl q ↦ inl q.0 | inr q ↦ inr q ];
    stays = λ even. step.3.0.moved.site.quiet (none-alone o size k x.words x.views step.0 step.3.0.before step.1 step.3.0.at even);
  }

  turns-all : (run : List (Instant Watch)) → Paced Step run → Paced Turn (map show run)
  turns-all [] p = tt
  turns-all (y ∷ []) p = (tt, tt)
  turns-all (y ∷ x ∷ h) p = (turns x y p.0, turns-all (x ∷ h) p.1)

  -- the word doesn't fall
  never-falls : (past : List Moment) (later earlier : ℕ) (m n : Moment) → Paced Turn past → later ≤ earlier → slice_get past later ≡ Some m → slice_get past earlier ≡ Some n → seq_of n ≤ seq_of m
  never-falls [] later earlier m n p l at at' = none-some n at'
  never-falls (y ∷ h) zero zero m n p l at at' = let a = ap seq_of (same-some y m at) in let b = ap seq_of (same-some y n at') in omega (arith, a, b)
  never-falls (y ∷ []) zero (suc j) m n p l at at' = none-some n at'
  never-falls (y ∷ x ∷ h) zero (suc j) m n p l at at' = let a = ap seq_of (same-some y m at) in let b = never-falls (x ∷ h) zero j x n p.1 (omega arith) refl at' in elim p.0.rises [
    | inl same ↦ omega (arith, a, b, same)
    | inr more ↦ omega (arith, a, b, more)
  ]
  never-falls (y ∷ h) (suc i) zero m n p l at at' = absurd (omega (arith, l))
  never-falls (y ∷ h) (suc i) (suc j) m n p l at at' = never-falls h i j m n p.1 (omega (arith, l)) at at'

  then-same : (x y z : Moment) → SameObject (site k x.words) (site k y.words) → SameObject (site k y.words) (site k z.words) → SameObject (site k x.words) (site k z.words)
  then-same x y z a b = record { guarded = b.guarded ∙ a.guarded; len = b.len ∙ a.len; entries = b.entries ∙ a.entries }

  same-as : (x y : Moment) → x ≡ y → SameObject (site k x.words) (site k y.words)
  same-as x y e = subst (λ (z : Moment). SameObject (site k x.words) (site k z.words)) e record { guarded = refl; len = refl; entries = refl }

  -- the object stays between two moments of one even word
  stays-same : (past : List Moment) (later earlier : ℕ) (m n : Moment) → Paced Turn past → later ≤ earlier → slice_get past later ≡ Some m → slice_get past earlier ≡ Some n → seq_of m ≡ seq_of n → seq_of n % 2 ≡ 0 → SameObject (site k n.words) (site k m.words)
  stays-same [] later earlier m n p l at at' word even = none-some n at'
  stays-same (y ∷ h) zero zero m n p l at at' word even = same-as n m (sym (same-some y n at') ∙ same-some y m at)
  stays-same (y ∷ []) zero (suc j) m n p l at at' word even = none-some n at'
  stays-same (y ∷ x ∷ h) zero (suc j) m n p l at at' word even = let is = same-some y m at in let a = ap seq_of is in let b = never-falls (x ∷ h) zero j x n p.1 (omega arith) refl at' in
      let here : seq_of x ≡ seq_of n = (elim p.0.rises [ inl same ↦ omega (arith, a, same, word) | inr more ↦ omega (arith, a, b, more, word) ]) in
      then-same n x m (stays-same (x ∷ h) zero j x n p.1 (omega arith) refl at' here even) (then-same x y m (p.0.stays (ap (λ (w : ℕ). w % 2) here ∙ even)) (same-as y m is))
  stays-same (y ∷ h) (suc i) zero m n p l at at' word even = absurd (omega (arith, l))
  stays-same (y ∷ h) (suc i) (suc j) m n p l at at' word even = stays-same h i j m n p.1 (omega (arith, l)) at at' word even

  pub stays-at-one-word : (past : List Moment) → Ran unmarked (newest k) Step past → StaysAtOneWord k past
  stays-at-one-word past r = λ later between earlier m p n at-later at-between at-earlier up on word even. let t : Paced Turn past = subst (Paced Turn) (sym r.1) (turns-all r.0 r.3) in
      let a = never-falls past later between m p t up at-later at-between in let b = never-falls past between earlier p n t on at-between at-earlier in stays-same past between earlier p n t on at-between at-earlier (omega (arith, a, b, word)) even
