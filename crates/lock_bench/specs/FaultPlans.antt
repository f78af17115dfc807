-- Plans of faults.
use Rattle.std.specs.Prelude.{◌≡◌, ℕ, ◌<◌, [], ◌∷◌, length, replicate}
use Rattle.word_bits.specs.declared.call.CallWords.{CallWords}
use Rattle.word_bits.specs.declared.call.Mode.TheVariants.{Plain}
use Rattle.word_bits.specs.Histories.{Plan}
use Rattle.lock_core.specs.Records.{row}
use Rattle.vma_map.specs.declared.call.SpaceCall.TheVariants.{Map, Fault}
use Rattle.vma_map.specs.Spaces.{words_of_call}

-- maps an area of four pages that can be read and written
abbrev pub map_words : CallWords
map_words = words_of_call (Map 16 4 3) Plain

-- writes to a page of it
abbrev pub fault_words : CallWords
fault_words = words_of_call (Fault 17 2) Plain

-- the task is one of the plan's, and its calls are so many of these faults
abbrev pub HasFaults : Plan → (task count : ℕ) → Type 0
HasFaults k task count = (task < length k) × (row k task ≡ replicate count fault_words)

-- the task is one of the plan's, and its one call maps the area
abbrev pub MapsArea : Plan → ℕ → Type 0
MapsArea k task = (task < length k) × (row k task ≡ map_words ∷ [])
