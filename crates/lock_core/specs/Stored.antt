-- The run of a table whose memory stores its words.
use Rattle.std.specs.Prelude.{ℕ, List}
use Rattle.word_bits.specs.Histories.{Plan}
use Rattle.lock_core.specs.Pasts.{Lived}
use Rattle.lock_core.specs.Stores.{Stores}
use Rattle.lock_core.specs.Types.{View, Seen, Moment}

-- the words that this memory stores, with the views, have come to be by moves from a new table
abbrev pub LivedStored : {E : Type 0} → (E → List ℕ) → Moment → (List ℕ → List (View E) → Type 0) → (ℕ → List ℕ → List (View E) → List ℕ → List (View E) → Type 0) → Plan → List ℕ → List (Seen E)
    → Type 0
LivedStored marks new holds moves k memory vs = (words : List ℕ) × Stores k words memory × Lived marks new holds moves words vs
