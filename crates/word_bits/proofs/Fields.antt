-- Fields of a word, by shifts and masks.
use Rattle.std.proofs.Common.{◌≡◌, ℕ, ◌+◌, ◌-◌, ◌*◌, ◌%◌, ◌^◌, ◌<◌, ap, ◌∙◌, arith, bit_and, bit_or}
use Rattle.std.proofs.lemmas.Nat.{and_mask, or_shifted, one_shl}
use Rattle.std.proofs.Math.Nat.{add_comm}

-- a shift and a mask are a quotient and a remainder
pub masked : (n w : ℕ) → w < 64 → bit_and n ((1 * 2 ^ w) % 2 ^ 64 - 1) ≡ n % 2 ^ w
masked n w narrow = ap (λ m. bit_and n (m - 1)) (one_shl w 64 narrow) ∙ and_mask n w

-- what lies above the first bits is added
pub joined : (high k low : ℕ) → low < 2 ^ k → high * 2 ^ k < 2 ^ 64 → bit_or ((high * 2 ^ k) % 2 ^ 64) low ≡ low + high * 2 ^ k
joined high k low below fits =
    let whole : (high * 2 ^ k) % 2 ^ 64 ≡ high * 2 ^ k = omega arith in
    ap (λ n. bit_or n low) whole ∙ or_shifted high k low below ∙ add_comm (high * 2 ^ k) low
