-- Four words that are raised together.
use Rattle.std.specs.Prelude.{◌≡◌, ℕ, List, slice_index}

-- they are equal
abbrev pub AreEqual : List ℕ → Type 0
AreEqual ws = (slice_index ws 1 ≡ slice_index ws 0) × (slice_index ws 2 ≡ slice_index ws 0) × (slice_index ws 3 ≡ slice_index ws 0)
