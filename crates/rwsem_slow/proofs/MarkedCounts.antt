-- What the marks of a pass say of wakes.
use Rattle.std.proofs.Common.{◌≡◌, ◌∙◌, ℕ, Bool, true, false, List, [], ◌∷◌, ◌++◌, length, get_or, refl, sym, ap, arith}
use Rattle.lock_core.specs.Pasts.{marks_of}
use Rattle.lock_core.specs.Records.{bit}
use Rattle.rwsem_slow.specs.WakesGo.{wake_stands}
use Rattle.rwsem_wake.specs.RwSemViews.{V}
use Rattle.rwsem_slow.specs.RwSems.{bias_codes, numbers_of, stage_code, standing, wait_code, wake_codes}
use Rattle.rwsem_slow.specs.RwSemStated.{stance}
use Rattle.rwsem_slow.specs.Types.{Marks, SemWake, Bias, Clear, Transit, Reserve, SemHand}

-- the numbers of a mark behind those of its bias
abbrev behind-bias : List ℕ → List ℕ
behind-bias (a ∷ b ∷ c ∷ d ∷ e ∷ ns) = ns
behind-bias _ = []

numbers-behind : (s : SemHand) (appends : ℕ) (b : SemWake) → behind-bias (numbers_of s appends b) ≡ wake_codes b ++ s.rest
numbers-behind s appends b = go s.bias
  where
    go : (x : Bias) → behind-bias (wait_code s.wait ∷ stage_code s.stage ∷ appends ∷ (bias_codes x ++ (wake_codes b ++ s.rest))) ≡ wake_codes b ++ s.rest
    go Clear = refl
    go (Transit m) = refl
    go (Reserve m) = refl

abbrev behind-five : List ℕ → List ℕ
behind-five (a ∷ b ∷ c ∷ d ∷ e ∷ f ∷ ns) = ns
behind-five _ = []

bit-same : (a b : Bool) → bit a ≡ bit b → a ≡ b
bit-same true true e = refl
bit-same false false e = refl
bit-same true false e = absurd (omega (arith, e))
bit-same false true e = absurd (omega (arith, e))

abbrev behind-first : List ℕ → List ℕ
behind-first [] = []
behind-first (n ∷ ns) = ns

-- lists of one length that begin the same list are the same
begins-same : (xs ys rs ts : List ℕ) → length xs ≡ length ys → xs ++ rs ≡ ys ++ ts → xs ≡ ys
begins-same [] [] rs ts long e = refl
begins-same [] (y ∷ ys) rs ts long e = absurd (omega (arith, long))
begins-same (x ∷ xs) [] rs ts long e = absurd (omega (arith, long))
begins-same (x ∷ xs) (y ∷ ys) rs ts long e = let head : x ≡ y = ap (λ (l : List ℕ). get_or l 0 0) e in let rest = begins-same xs ys rs ts (omega (arith, long)) (ap behind-first e) in λ i. head i ∷ rest i

-- the marks of a pass say what it has of wakes
pub same-wakes : (v : V) (s : SemHand) (appends : ℕ) (b : SemWake) → marks_of standing v ≡ stance s appends b → wake_stands v.ext.wake ≡ wake_stands b
same-wakes v s appends b e = let codes : wake_codes v.ext.wake ++ v.ext.sem.rest ≡ wake_codes b ++ s.rest = sym (numbers-behind v.ext.sem v.ext.appends v.ext.wake) ∙ (ap (λ (m : Marks). behind-bias m.numbers) e ∙ numbers-behind s appends b) in
    let at : (i : ℕ) → get_or (wake_codes v.ext.wake ++ v.ext.sem.rest) i 0 ≡ get_or (wake_codes b ++ s.rest) i 0 = λ i. ap (λ (l : List ℕ). get_or l i 0) codes in
    let owing = bit-same v.ext.wake.owing b.owing (at 0) in let chosen = begins-same v.ext.wake.chosen b.chosen v.ext.sem.rest s.rest (at 5) (ap behind-five codes) in
    λ i. record { owing = owing i; chosen = chosen i; queued = at 1 i; awake = at 2 i; wakes = at 3 i; dozes = at 4 i }
