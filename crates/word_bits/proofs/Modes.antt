-- The numbers of modes.
use Rattle.std.proofs.Common.{◌≡◌, ℕ, ◌<◌, refl, zero, suc, arith}
use Rattle.word_bits.specs.declared.call.Mode.{Mode}
use Rattle.word_bits.specs.declared.call.Mode.TheVariants.{Plain, Int, Try}
use Rattle.word_bits.specs.Calls.{mode_number}

-- a mode's number is below 3
pub mode_number-lt : (mode : Mode) → mode_number mode < 3
mode_number-lt Plain = omega arith
mode_number-lt Int = omega arith
mode_number-lt Try = omega arith

-- each number below 3 is a mode's
pub mode_at : (n : ℕ) → n < 3 → (mode : Mode) × (mode_number mode ≡ n)
mode_at zero below = (Plain, refl)
mode_at (suc zero) below = (Int, refl)
mode_at (suc (suc zero)) below = (Try, refl)
mode_at (suc (suc (suc n))) below = absurd (omega arith)
