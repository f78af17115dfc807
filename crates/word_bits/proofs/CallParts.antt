-- The parts of a call's words.
use Rattle.std.proofs.Common.{◌≡◌, ◌+◌, ◌*◌, ◌^◌, arith}
use Rattle.word_bits.specs.declared.call.CallWords.{CallWords}
use Rattle.word_bits.specs.Calls.{with_third}

-- words without a third number have 0 there
pub unthirded : (w : CallWords) → w ≡ with_third w 0
unthirded w = let b : w.b ≡ w.b + 0 * 2 ^ 32 = omega arith in λ i. record { a = w.a; b = b i }
