-- A queue of items in a row of words, each at the place that its number picks.
use Rattle.std.specs.Prelude.{◌≡◌, ◌+◌, ◌%◌, ◌<◌, ◌≤◌, ℕ, List, slice_index}

-- The first word says how many items were taken, the second how many were put. The eight behind them hold those that were put and not taken: the item of each number at the place that its remainder
-- picks.
pub record IsQueue (item : ℕ → ℕ) (ws : List ℕ) : Type 0 where
  pub taken : slice_index ws 0 ≤ slice_index ws 1
  pub room : slice_index ws 1 ≤ slice_index ws 0 + 8
  pub items : (i : ℕ) → slice_index ws 0 ≤ i → i < slice_index ws 1 → slice_index ws (2 + i % 8) ≡ item i
