-- The word of a queued spin lock.
use Rattle.std.specs.Prelude.{ℕ, ◌+◌, ◌-◌, ◌*◌, ◌^◌, ◌<◌, Option, Some, None, IfSome}
use Rattle.word_bits.specs.declared.spin.Spin.{Spin}
use Rattle.word_bits.specs.declared.spin.Tail.{Tail}
use Rattle.word_bits.specs.OwnerWord.{bit}

-- one of four nodes of a CPU whose number plus 1 has 21 bits
pub record IsTail (t : Tail) : Type 0 where
  pub cpu : t.cpu < 2 ^ 21 - 1
  pub index : t.index < 4

abbrev pub IsSpin : Spin → Type 0
IsSpin s = IfSome s.tail IsTail

-- the CPU's number plus 1 above the node's, and 0 without a tail
abbrev pub tail_code : Option Tail → ℕ
tail_code None = 0
tail_code (Some t) = t.index + (t.cpu + 1) * 2 ^ 2

-- the locked byte, the pending bit and the tail
abbrev pub spin_word : Spin → ℕ
spin_word s = bit s.locked + bit s.pending * 2 ^ 8 + tail_code s.tail * 2 ^ 9
