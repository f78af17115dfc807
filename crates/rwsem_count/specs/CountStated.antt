-- What a count says at each moment of a table that has no list of waiters.
use Rattle.std.specs.Prelude.{◌≡◌, ◌≢◌, ℕ, ◌+◌, ◌*◌, ◌≤◌, false, List, [], ◌∷◌, None}
use mathlib.Core.Option.{some}
use lib.ListN.{get_elem?}
use Rattle.word_bits.specs.declared.TheConstants.{MAX_TASKS}
use Rattle.word_bits.specs.CountWord.{count_word}
use Rattle.word_bits.specs.OwnerWord.{bit}
use Rattle.lock_core.specs.Views.{alone_of}
use Rattle.lock_core.specs.Totals.{total}
use Rattle.rwsem_count.specs.Counts.{shared_weight}
use Rattle.rwsem_count.specs.Types.{Count, Hand, No, Marks, Bias, Clear, Transit, Reserve}

-- what a moment keeps of a pass: the word that the addition of its bias saw, where it has one
abbrev pub kept_bias : Bias → List ℕ
kept_bias Clear = []
kept_bias (Transit word) = word ∷ []
kept_bias (Reserve word) = word ∷ []

-- a pass is counted that is in transit: its try has added its bias, and neither holds by it nor has taken it back
abbrev pub transit_of : Marks → ℕ
transit_of m = count m.numbers
  where
    count : List ℕ → ℕ
    count [] = 0
    count (word ∷ rest) = 1

-- a pass is counted that holds shared
abbrev pub shared_of : Hand → ℕ
shared_of h = shared_weight h.held

-- The word is that of a count whose writer bit is the number of passes that hold alone, and whose reader field is that of the passes that hold shared and of those in transit. Nobody waits in a list,
-- so the other flags are clear.
pub record StatesCount (word : ℕ) (hs : List Hand) (ms : List Marks) : Type 0 where
  pub count : Count
  pub is : count_word count ≡ word
  pub writer : bit count.writer ≡ total alone_of hs
  pub readers : count.readers ≡ total shared_of hs + total transit_of ms
  pub waiters : count.waiters ≡ false
  pub handoff : count.handoff ≡ false
  pub no_fail : count.read_fail ≡ false
  pub small : word ≤ 256 * (MAX_TASKS + 1) + 7
  -- who is in transit has a number, and holds nothing
  pub apart : (j : ℕ) (h : Hand) (m : Marks) → get_elem? hs j ≡ some h → get_elem? ms j ≡ some m → transit_of m ≡ 1 → (h.held ≡ No) × (h.task ≢ None)
