-- What it means to decode a word of a lock.
use Rattle.std.specs.Prelude.{ℕ, IfErr, Result}
use Rattle.std.specs.Result.{result_ok}
use Rattle.word_bits.specs.Packed.{Unpacks}
use Rattle.lock_decode.specs.declared.why.Why.{Why}

-- The one value that a lock can have and whose word it is; an error exactly where there is none, and then what the reason says is so of the word.
pub record Decodes {V : Type 0} (Can : V → Type 0) (word_of : V → ℕ) (Says : Why → ℕ → Type 0) (word : ℕ) (result : Result V Why) : Type 0 where
  pub told : Unpacks Can word_of word (result_ok result)
  pub why : IfErr result (λ why. Says why word)
