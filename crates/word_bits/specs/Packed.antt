-- What it means to unpack a word.
use Rattle.std.specs.Prelude.{◌≡◌, ℕ, Option, Some, None}

-- the one value that is so, and None exactly where there is none
abbrev pub IsFound : {V : Type 0} → (V → Type 0) → Option V → Type 0
IsFound {V} Is (Some v) = Is v × ((w : V) → Is w → w ≡ v)
IsFound {V} Is None = (w : V) → Is w → ⊥

-- the one value in the ranges whose word it is, and None exactly where no value packs to the word
abbrev pub Unpacks : {V : Type 0} → (V → Type 0) → (V → ℕ) → ℕ → Option V → Type 0
Unpacks Fits word_of word result = IsFound (λ v. Fits v × (word_of v ≡ word)) result
