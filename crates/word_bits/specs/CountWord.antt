-- The word of a rw_semaphore's count.
use Rattle.std.specs.Prelude.{ℕ, ◌+◌, ◌*◌, ◌^◌, ◌<◌}
use Rattle.word_bits.specs.declared.count.Count.{Count}
use Rattle.word_bits.specs.OwnerWord.{bit}

abbrev pub IsCount : Count → Type 0
IsCount c = c.readers < 2 ^ 55

-- three flags, writer 1, waiters 2 and handoff 4, a bias of 256 for each reader, and the highest bit
abbrev pub count_word : Count → ℕ
count_word c = bit c.writer + bit c.waiters * 2 + bit c.handoff * 4 + c.readers * 2 ^ 8 + bit c.read_fail * 2 ^ 63
