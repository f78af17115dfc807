-- Two accounts, and what they add up to.
use Rattle.std.specs.Prelude.{◌≡◌, ◌+◌, ℕ, List, slice_index}

-- of three words the first two add up to the third
abbrev pub AddUp : List ℕ → Type 0
AddUp ws = slice_index ws 0 + slice_index ws 1 ≡ slice_index ws 2
