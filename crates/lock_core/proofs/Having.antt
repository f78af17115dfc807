-- Which words every table has, and which it has of a task.
use Rattle.std.proofs.Common.{ℕ, ◌+◌, ◌<◌, ◌≤◌, arith}
use Rattle.word_bits.specs.declared.TheConstants.{MAX_TASKS}
use Rattle.lock_core.specs.declared.layout.TheConstants.{LOCK_WORDS}
use Rattle.lock_core.specs.Stores.{HasWord, row_at, row_room, spin_room}

-- a word of a spin lock, or of a node of one of its tasks
pub has-spin : (n at : ℕ) → n ≤ MAX_TASKS → at < spin_room n → HasWord n at
has-spin n at few l = record { spin = λ m. absurd (omega (arith, l, m)); first = λ m. absurd (omega (arith, few, l, m)); second = λ m. absurd (omega (arith, few, l, m)); third = λ m. absurd (omega (arith, few, l, m)); fourth = λ m. absurd (omega (arith, few, l, m)) }

-- a word of a row, no further behind its beginning than the line of its last task
pub has-row : (n r at : ℕ) → n ≤ MAX_TASKS → r < 4 → at < row_room n → HasWord n (row_at r + at)
has-row n r at few which l = record { spin = λ _. omega arith; first = λ m. omega (arith, few, l, m); second = λ m. omega (arith, few, l, m); third = λ m. omega (arith, few, l, m); fourth = λ m. omega (arith, few, l, m, which) }

-- a word of the site's
pub has-site : (n at : ℕ) → HasWord n (LOCK_WORDS + at)
has-site n at = record { spin = λ _. omega arith; first = λ _. omega arith; second = λ _. omega arith; third = λ _. omega arith; fourth = λ _. omega arith }
