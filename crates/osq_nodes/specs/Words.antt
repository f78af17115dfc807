-- The words of a spin queue in those of its table.
use Rattle.std.specs.Prelude.{ℕ, ◌+◌, ◌*◌, List, take, slice_index, Option, None, Some}
use Rattle.lock_core.specs.declared.layout.TheConstants.{LOCK_WORDS}

-- where each word stands

abbrev pub tail_at : ℕ
tail_at = 0

abbrev pub next_at : ℕ → ℕ
next_at t = 64 + 32 * t

abbrev pub prev_at : ℕ → ℕ
prev_at t = 65 + 32 * t

abbrev pub locked_at : ℕ → ℕ
locked_at t = 72 + 32 * t

-- the code of a task, and 0 where there is none
abbrev pub code_in : Option ℕ → ℕ
code_in None = 0
code_in (Some t) = t + 1

-- the words of the locks in those of a table
abbrev pub row_of : List ℕ → List ℕ
row_of ws = take LOCK_WORDS ws

-- what each word is

abbrev pub tail_in : List ℕ → ℕ
tail_in row = slice_index row tail_at

abbrev pub next_in : List ℕ → ℕ → ℕ
next_in row t = slice_index row (next_at t)

abbrev pub prev_in : List ℕ → ℕ → ℕ
prev_in row t = slice_index row (prev_at t)

abbrev pub locked_in : List ℕ → ℕ → ℕ
locked_in row t = slice_index row (locked_at t)
