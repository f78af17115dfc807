-- What the count of the digits says of the number.
use Rattle.std.proofs.Common.{◌≡◌, ℕ, ◌+◌, ◌-◌, ◌*◌, ◌^◌, ◌<◌, ◌≤◌, Bool, true, false, List, [], ◌∷◌, length, zero, suc, refl, subst, arith, Option, Some, None, nat_lt, ◌&&◌, cond}
use Rattle.std.proofs.Math.Nat.{pow-suc}
use Rattle.std.proofs.lemmas.Bool.{and_parts}
use Rattle.std.proofs.lemmas.Bool.Decides.{nat_tests}
use Rattle.std.specs.Char.{is_ascii_digit}
use Rattle.std.specs.List.{list_all}
use Rattle.task_script.specs.Tokens.{value_after, number, leads_zero}

-- more digits don't make a number smaller
value_after_ge : (n : ℕ) (ds : List ℕ) → n ≤ value_after n ds
value_after_ge n [] = omega arith
value_after_ge n (d ∷ ds) = let rest = value_after_ge (n * 10 + (d - 48)) ds in omega arith

-- each of them makes it ten times as large at least
value_after_tens : (j k n : ℕ) (ds : List ℕ) → 10 ^ j ≤ n → k ≤ length ds → 10 ^ (j + k) ≤ value_after n ds
value_after_tens j zero n ds low long =
    let same : j ≡ j + 0 = omega arith in
    let rest = value_after_ge n ds in
    let all : 10 ^ j ≤ value_after n ds = omega arith in
    subst (λ i. 10 ^ i ≤ value_after n ds) same all
value_after_tens j (suc k) n [] low long = absurd (omega arith)
value_after_tens j (suc k) n (d ∷ ds) low long =
    let next : 10 ^ suc j ≤ n * 10 + (d - 48) = let ten = pow-suc 10 j in omega arith in
    let same : suc j + k ≡ j + suc k = omega arith in
    subst (λ i. 10 ^ i ≤ value_after n (d ∷ ds)) same (value_after_tens (suc j) k (n * 10 + (d - 48)) ds next (omega arith))

-- a value that doesn't fit is no number, whatever else is tested
no_number : (digits fits : Bool) (n : ℕ) → (digits ≡ true → fits ≡ false) → None ≡ cond {A = Option ℕ} (digits && fits) (Some n) None
no_number true fits n e = rw (e refl) refl
no_number false fits n e = refl

-- more than ten digits without leading zeros are no number below 2 ^ 32
pub number_too_long : (word : List ℕ) → leads_zero word ≡ false → 10 < length word → None ≡ number word
number_too_long [] leads long = absurd (omega arith)
number_too_long (d ∷ []) leads long = absurd (omega arith)
number_too_long (d ∷ e ∷ ds) leads long = rw leads (no_number (list_all is_ascii_digit (d ∷ e ∷ ds)) (nat_lt (value_after 0 (d ∷ e ∷ ds)) (2 ^ 32)) (value_after 0 (d ∷ e ∷ ds)) large)
  where
    large : list_all is_ascii_digit (d ∷ e ∷ ds) ≡ true → nat_lt (value_after 0 (d ∷ e ∷ ds)) (2 ^ 32) ≡ false
    large digits =
        let digit : is_ascii_digit d ≡ true = (and_parts (is_ascii_digit d) (list_all is_ascii_digit (e ∷ ds)) digits).0 in
        let first : 1 ≤ 0 * 10 + (d - 48) = grind (arith, nat_tests) in
        let tens : 10 ^ 10 ≤ value_after 0 (d ∷ e ∷ ds) = value_after_tens 0 10 (0 * 10 + (d - 48)) (e ∷ ds) first (omega arith) in
        grind (arith, nat_tests)
