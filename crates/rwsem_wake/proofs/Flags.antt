-- The flags of the waiters in a count's bits, and what it means that one is set.
use Rattle.std.proofs.Common.{◌≡◌, ◌≢◌, ℕ, zero, suc, ◌+◌, ◌-◌, ◌*◌, ◌/◌, ◌%◌, ◌<◌, ◌==◌, ◌↔◌, Bool, true, false, IsTrue, refl, sym, arith, eq-eqb, ne_eqb}
use Rattle.std.specs.Prelude.{bit_and, bit_or}
use Rattle.lock_core.specs.Records.{bit}
use Rattle.lock_core.proofs.HandLaws.{not-both}
use Rattle.std.specs.Int.Bits.{or_add_and}
use Rattle.std.proofs.lemmas.Nat.{and_shr, and_mod, and_mask}
use Rattle.std.proofs.lemmas.Nat.Bits.{and_pow}

-- what a test of a flag tells of it
pub flag-clear : (b : Bool) (m : ℕ) → (IsTrue b ↔ (m % 2 ≡ 1)) → b ≡ false → m % 2 ≡ 0
flag-clear b m is clear = let not : m % 2 ≢ 1 = (λ e. not-both b clear (is.1 e)) in omega (arith, not)

pub flag-is : (b : Bool) (m : ℕ) → (IsTrue b ↔ (m % 2 ≡ 1)) → b ≡ (m % 2 == 1)
flag-is true m is = sym (eq-eqb (m % 2) 1 (is.0 refl))
flag-is false m is = sym (ne_eqb (m % 2) 1 (λ e. not-both false refl (is.1 e)))

pub flag-bit : (b : Bool) (m : ℕ) → (IsTrue b ↔ (m % 2 ≡ 1)) → bit b ≡ m % 2
flag-bit true m is = sym (is.0 refl)
flag-bit false m is = sym (flag-clear false m is refl)

-- WAITERS is set where it is clear
pub sets_waiters : (n : ℕ) → n / 2 % 2 ≡ 0 → bit_or n 2 ≡ n + 2
sets_waiters n clear = let a = or_add_and n 2 in let b : bit_and n 2 ≡ n / 2 % 2 * 2 = and_pow n 1 in omega (arith, a, b, clear)

-- WAITERS and HANDOFF are cleared: the mask is all ones but for these
pub clears_waiters : (n : ℕ) → n < 18446744073709551616 → bit_and n 18446744073709551609 + (n % 8 - n % 2) ≡ n
clears_waiters n small = let a = and_shr n 18446744073709551609 3 in let b = and_mod n 18446744073709551609 3 in let c = and_mask (n / 8) 61 in let d = low (n % 8) (omega arith) in omega arith
  where
    low : (m : ℕ) → m < 8 → bit_and m 1 ≡ m % 2
    low zero l = refl
    low (suc zero) l = refl
    low (suc (suc zero)) l = refl
    low (suc (suc (suc zero))) l = refl
    low (suc (suc (suc (suc zero)))) l = refl
    low (suc (suc (suc (suc (suc zero))))) l = refl
    low (suc (suc (suc (suc (suc (suc zero)))))) l = refl
    low (suc (suc (suc (suc (suc (suc (suc zero))))))) l = refl
    low (suc (suc (suc (suc (suc (suc (suc (suc m)))))))) l = absurd (omega arith)
