-- What the digits of a number are read as.
use Rattle.std.proofs.Common.{◌≡◌, ℕ, ◌+◌, ◌-◌, ◌*◌, ◌/◌, ◌%◌, ◌^◌, ◌<◌, ◌≤◌, true, false, zero, suc, List, [], ◌∷◌, ◌++◌, length, get_or, refl, ◌∙◌, arith, Some, nat_lt}
use Rattle.std.specs.Prelude.{decimal}
use Rattle.std.specs.Char.{is_ascii_digit}
use Rattle.std.specs.List.{list_all}
use Rattle.std.proofs.lemmas.Bool.{ne_eqb}
use Rattle.std.proofs.lemmas.Bool.Decides.{nat_tests}
use Rattle.std.proofs.lemmas.Fmt.{decimal_by_steps, decimal_digit, decimal_nonempty, first_decimal}
use Rattle.std.proofs.lemmas.List.Folds.{list_all-append}
use Rattle.task_script.specs.Tokens.{value_after, leads_zero, number}

-- one digit more
value_after-append : (n : ℕ) (ds : List ℕ) (d : ℕ) → value_after n (ds ++ d ∷ []) ≡ value_after n ds * 10 + (d - 48)
value_after-append n [] d = refl
value_after-append n (e ∷ ds) d = value_after-append (n * 10 + (e - 48)) ds d

-- these are digits of this number
record IsWritten (n : ℕ) (ds : List ℕ) : Type 0 where
  digits : list_all is_ascii_digit ds ≡ true
  value : value_after 0 ds ≡ n

digit_is : (d : ℕ) → d < 10 → is_ascii_digit (48 + d) ≡ true
digit_is d small = grind (arith, nat_tests)

written : (n : ℕ) → n < 2 ^ 64 → IsWritten n (decimal n)
written = decimal_by_steps IsWritten one more
  where
    one : (n : ℕ) → n < 10 → IsWritten n ((48 + n) ∷ [])
    one n small = let digit = digit_is n small in record { digits = rw digit refl; value = omega arith }

    more : (n : ℕ) (ds : List ℕ) → 10 ≤ n → IsWritten (n / 10) ds → IsWritten n (ds ++ (48 + n % 10) ∷ [])
    more n ds large is = let digit = digit_is (n % 10) (omega arith) in record {
      digits = list_all-append is_ascii_digit ds ((48 + n % 10) ∷ []) ∙ rw (is.digits, digit) refl;
      value = value_after-append 0 ds (48 + n % 10) ∙ rw is.value (omega arith);
    }

-- they don't begin with a zero that isn't the whole
no_leading_zero : (ds : List ℕ) → 48 < get_or ds 0 0 → leads_zero ds ≡ false
no_leading_zero [] first = absurd (omega arith)
no_leading_zero (d ∷ []) first = refl
no_leading_zero (d ∷ e ∷ ds) first = ne_eqb d 48 (λ same. omega arith)

leads_zero-decimal : (n : ℕ) → n < 2 ^ 64 → leads_zero (decimal n) ≡ false
leads_zero-decimal zero fits = rw (decimal_digit 0 (omega arith)) refl
leads_zero-decimal (suc n) fits = no_leading_zero (decimal (suc n)) (first_decimal (suc n) (omega arith) fits)

-- a number of 32 bits is read from its digits
pub number-decimal : (n : ℕ) → n < 2 ^ 32 → number (decimal n) ≡ Some n
number-decimal n fits =
    let is = written n (omega arith) in
    let small : nat_lt n (2 ^ 32) ≡ true = grind (arith, nat_tests) in
    rw (leads_zero-decimal n (omega arith), is.digits, is.value, small) refl

pub digits-decimal : (n : ℕ) → n < 2 ^ 32 → list_all is_ascii_digit (decimal n) ≡ true
digits-decimal n fits = (written n (omega arith)).digits

pub some-decimal : (n : ℕ) → n < 2 ^ 32 → 0 < length (decimal n)
some-decimal n fits = decimal_nonempty n (omega arith)
