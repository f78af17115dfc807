-- Which words a table stores. The places of words are those of a table for MAX_TASKS tasks: the words of spin locks, four rows, the site's words. Among the words of its locks a table stores those for
-- its plan's tasks alone.
use Rattle.std.specs.Prelude.{◌≡◌, ℕ, ◌+◌, ◌-◌, ◌*◌, ◌<◌, ◌≤◌, ◌⊎◌, List, length, slice_index, replicate, ◌++◌}
use Rattle.word_bits.specs.declared.TheConstants.{MAX_TASKS}
use Rattle.word_bits.specs.Histories.{Plan}
use Rattle.lock_core.specs.declared.layout.TheConstants.{SPIN_WORDS, ROW_WORDS, LOCK_WORDS}
use Rattle.lock_core.specs.Plans.{call_words}
use Rattle.lock_core.specs.Layout.{calls_at, site_width, width}

-- how many words of the spin locks a table with so many tasks stores: their lines, and four for each task
abbrev pub spin_room : ℕ → ℕ
spin_room tasks = 64 + 32 * tasks

-- how many words of a row
abbrev pub row_room : ℕ → ℕ
row_room tasks = 64 + 8 * tasks

-- how many words of all locks
abbrev pub lock_room : ℕ → ℕ
lock_room tasks = 320 + 64 * tasks

-- where the row of this number begins
abbrev pub row_at : ℕ → ℕ
row_at r = SPIN_WORDS + ROW_WORDS * r

-- how many words of each row it leaves out
abbrev pub left_out : ℕ → ℕ
left_out tasks = 8 * (MAX_TASKS - tasks)

-- a table with so many tasks stores the word of this place: it is none of those that are left out behind the spin words and behind each row
pub record HasWord (tasks place : ℕ) : Type 0 where
  pub spin : spin_room tasks ≤ place → SPIN_WORDS ≤ place
  pub first : SPIN_WORDS + row_room tasks ≤ place → row_at 1 ≤ place
  pub second : row_at 1 + row_room tasks ≤ place → row_at 2 ≤ place
  pub third : row_at 2 + row_room tasks ≤ place → row_at 3 ≤ place
  pub fourth : row_at 3 + row_room tasks ≤ place → LOCK_WORDS ≤ place

-- these places stand so many words further back than in memory
abbrev pub IsMoved : (from room back : ℕ) → (place at : ℕ) → Type 0
IsMoved from room back place at = (from ≤ place) × (place < from + room) × (at + back ≡ place)

-- where a table with so many tasks stores the word of this place
abbrev pub IsStoredAt : ℕ → ℕ → ℕ → Type 0
IsStoredAt tasks place at = IsMoved 0 (spin_room tasks) 0 place at
    ⊎ IsMoved SPIN_WORDS (row_room tasks) (4 * left_out tasks) place at
    ⊎ IsMoved (row_at 1) (row_room tasks) (5 * left_out tasks) place at
    ⊎ IsMoved (row_at 2) (row_room tasks) (6 * left_out tasks) place at
    ⊎ IsMoved (row_at 3) (row_room tasks) (7 * left_out tasks) place at
    ⊎ ((LOCK_WORDS ≤ place) × (at + 8 * left_out tasks ≡ place))

-- how many words a table has in memory
abbrev pub memory_width : Plan → ℕ
memory_width k = lock_room (length k) + site_width k

-- the words in memory are these words, but for those that aren't stored, which are 0
pub record Stores (k : Plan) (words memory : List ℕ) : Type 0 where
  pub wide : length words ≡ width k
  pub memory_wide : length memory ≡ memory_width k
  pub at : (place at : ℕ) → place < width k → IsStoredAt (length k) place at → slice_index memory at ≡ slice_index words place
  pub rest : (place : ℕ) → place < LOCK_WORDS → HasWord (length k) place ⊎ (slice_index words place ≡ 0)

-- those of a new table
abbrev pub new_memory : Plan → List ℕ
new_memory k = replicate (lock_room (length k) + calls_at k) 0 ++ call_words k
