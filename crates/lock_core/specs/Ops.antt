-- What one step does to a word of 64 bits. What a step of a table asks is stated by it.
use Rattle.std.specs.Prelude.{ℕ, ◌+◌, ◌-◌, ◌%◌, ◌^◌, ◌==◌, if◌then◌else◌, bit_and, bit_or}
use Rattle.lock_core.specs.Types.{Op, Load, Store, Swap, Add, Sub, Or, And, Exchange}

-- the word after the step, of the word before it
abbrev pub word_after : Op → ℕ → ℕ
word_after Load n = n
word_after (Store new) n = new
word_after (Swap new) n = new
word_after (Add by) n = (n + by) % 2 ^ 64
word_after (Sub by) n = (n + (2 ^ 64 - by)) % 2 ^ 64
word_after (Or bits) n = bit_or n bits
word_after (And bits) n = bit_and n bits
word_after (Exchange from to) n = if n == from then to else n

-- the operands, as the table takes them
abbrev pub first_of : Op → ℕ
first_of Load = 0
first_of (Store new) = new
first_of (Swap new) = new
first_of (Add by) = by
first_of (Sub by) = by
first_of (Or bits) = bits
first_of (And bits) = bits
first_of (Exchange from to) = from

abbrev pub second_of : Op → ℕ
second_of (Exchange from to) = to
second_of Load = 0
second_of (Store new) = 0
second_of (Swap new) = 0
second_of (Add by) = 0
second_of (Sub by) = 0
second_of (Or bits) = 0
second_of (And bits) = 0

-- what the step answers, of the word before it: a store doesn't learn that, and answers what it stored
abbrev pub told_by : Op → ℕ → ℕ
told_by Load n = n
told_by (Store new) n = new
told_by (Swap new) n = n
told_by (Add by) n = n
told_by (Sub by) n = n
told_by (Or bits) n = n
told_by (And bits) n = n
told_by (Exchange from to) n = n
