-- Words of tasks, each on a line of its own.
use Rattle.std.specs.Prelude.{ℕ, zero, suc, ◌+◌, ◌*◌, List, [], ◌∷◌, slice_index}
use Rattle.word_bits.specs.declared.TheConstants.{MAX_TASKS}

-- the place of a task's word, where task 0 has this one
abbrev pub line_place : ℕ → ℕ → ℕ
line_place base task = base + 8 * task

-- the words at the places of n, n + 1, .., so many
abbrev pub gather : (ℕ → ℕ) → ℕ → ℕ → List ℕ → List ℕ
gather place n zero ws = []
gather place n (suc m) ws = slice_index ws (place n) ∷ gather place (suc n) m ws

-- the words of all tasks
unfoldable pub lines_in : ℕ → List ℕ → List ℕ
lines_in base ws = gather (line_place base) 0 MAX_TASKS ws
