-- Waiting of codes.
use Rattle.std.proofs.Common.{◌≡◌, ◌≢◌, ℕ, zero, suc, ◌≤◌, ◌⊎◌, List, [], ◌∷◌, ◌++◌, length, sym, refl, ap, ◌∙◌, subst, inl, inr, ⊎_elim, arith, eq-eqb, ne_eqb}
use mathlib.Core.Option.{some, some-injective, some-ne-none}
use mathlib.Core.Logic.{dite}
use native.Mathlib.Decide.{ℕ_discrete}
use lib.ListN.{get_elem?}
use Rattle.lock_core.specs.Records.{bit}
use Rattle.lock_core.specs.Totals.{total, total-two, total-at}
use Rattle.lock_core.specs.SpinFrames.{code_is}
use Rattle.lock_core.specs.SpinQueues.{tail_of, Before}

pub code_is-same : (c : ℕ) → code_is c c ≡ 1
code_is-same c = ap bit (eq-eqb c c refl)

pub code_is-else : (c x : ℕ) → x ≢ c → code_is c x ≡ 0
code_is-else c x n = ap bit (ne_eqb x c n)

-- a code stands at one place
pub one_place : (q : List ℕ) (p r c : ℕ) → total (code_is c) q ≤ 1 → get_elem? q p ≡ some c → get_elem? q r ≡ some c → p ≡ r
one_place q p r c once at at' = dite (ℕ_discrete p r) (λ e. e) (λ not. let two = total-two (code_is c) q p r c c at at' not in let o = code_is-same c in absurd (omega arith))

-- and so one code stands behind it
pub one_behind : (q : List ℕ) (x y z : ℕ) → total (code_is x) q ≤ 1 → Before q x y → Before q x z → y ≡ z
one_behind q x y z once (p, at, next) (r, at', next') = some-injective y z (sym next ∙ subst (λ (n : ℕ). get_elem? q (suc n) ≡ some z) (sym (one_place q p r x once at at')) next')

pub tail-snoc : (q : List ℕ) (c : ℕ) → tail_of (q ++ c ∷ []) ≡ c
tail-snoc [] c = refl
tail-snoc (x ∷ []) c = refl
tail-snoc (x ∷ y ∷ q) c = tail-snoc (y ∷ q) c

-- an empty queue has no tail, and no other has none
pub tail-in : (q : List ℕ) → (q ≡ []) ⊎ ((p : ℕ) × (get_elem? q p ≡ some (tail_of q)) × (suc p ≡ length q))
tail-in [] = inl refl
tail-in (x ∷ []) = inr (zero, refl, refl)
tail-in (x ∷ y ∷ q) = inr (⊎_elim (λ e. absurd cc) (λ t. (suc t.0, t.1, ap suc t.2)) (tail-in (y ∷ q)))

pub no_tail : (q : List ℕ) → total (code_is 0) q ≡ 0 → tail_of q ≡ 0 → q ≡ []
no_tail q real none = ⊎_elim (λ e. e) (λ t. let here : code_is 0 (tail_of q) ≤ total (code_is 0) q = total-at (code_is 0) q t.0 (tail_of q) t.1 in let one : code_is 0 (tail_of q) ≡ 1 = ap (code_is 0) none in absurd (omega arith)) (tail-in q)

-- the node of the last frame has none behind it
pub past_end : (q : List ℕ) (p y : ℕ) → suc p ≡ length q → get_elem? q (suc p) ≡ some y → ⊥
past_end [] p y e at = some-ne-none y (sym at)
past_end (x ∷ []) p y e at = some-ne-none y (sym at)
past_end (x ∷ z ∷ q) zero y e at = let n : suc zero ≡ suc (suc (length q)) = e in omega arith
past_end (x ∷ z ∷ q) (suc p) y e at = past_end (z ∷ q) p y (omega arith) at

-- the head is the last: it stands alone
pub alone : (q : List ℕ) (c : ℕ) → total (code_is c) q ≤ 1 → total (code_is 0) q ≡ 0 → get_elem? q 0 ≡ some c → tail_of q ≡ c → q ≡ c ∷ []
alone [] c once real at last = absurd (some-ne-none c (sym at))
alone (x ∷ []) c once real at last = ap (λ (z : ℕ). z ∷ []) (some-injective x c at)
alone (x ∷ y ∷ q) c once real at last = ⊎_elim (λ e. absurd cc) (λ t. let r = one_place (x ∷ y ∷ q) (suc t.0) zero c once (t.1 ∙ ap some last) at in absurd (omega arith)) (tail-in (y ∷ q))

pub some_stand : (q : List ℕ) → tail_of q ≢ 0 → 1 ≤ length q
some_stand [] n = absurd (n refl)
some_stand (x ∷ q) n = omega arith

-- a sum that isn't 0 has a summand that isn't
pub some_summand : {V : Type 0} (f : V → ℕ) (vs : List V) → 1 ≤ total f vs → (j : ℕ) × (v : V) × (get_elem? vs j ≡ some v) × (1 ≤ f v)
some_summand f [] l = absurd (omega arith)
some_summand f (x ∷ xs) l = dite (ℕ_discrete (f x) 0) (λ z. let r = some_summand f xs (omega arith) in (suc r.0, r.1, r.2, r.3)) (λ n. (zero, x, refl, omega arith))

pub some_first : (q : List ℕ) (c : ℕ) → get_elem? q 0 ≡ some c → 1 ≤ length q
some_first [] c at = absurd (some-ne-none c (sym at))
some_first (x ∷ q) c at = omega arith

pub total-below : {V : Type 0} (f g : V → ℕ) → ((v : V) → f v ≤ g v) → (vs : List V) → total f vs ≤ total g vs
total-below f g le [] = omega arith
total-below f g le (x ∷ xs) = let a = le x in let b = total-below f g le xs in omega arith
