-- What a search for the area of a page knows.
use Rattle.std.specs.Prelude.{◌≡◌, ◌≢◌, ℕ, ◌+◌, ◌-◌, ◌/◌, ◌<◌, ◌≤◌, ◌==◌, nat_lt, List, length, take, drop, slice_index, Option, Some, None, if◌then◌else◌}
use Rattle.std.specs.List.{AllByRecursion}
use Rattle.word_bits.specs.declared.area.Area.{Area}
use Rattle.vma_map.specs.Runs.{IsSpace, words_of_areas}
use Rattle.vma_map.specs.declared.search.Search.{Search}

-- so many of the areas begin at the page or before it, and the others from another place on begin behind it
abbrev pub ArePartedAt : List Area → (page low high : ℕ) → Type 0
ArePartedAt areas page low high = AllByRecursion (λ area. area.start ≤ page) (take low areas) × AllByRecursion (λ area. page < area.start) (drop high areas)

abbrev pub page_of : Search → ℕ
page_of s = s.page

-- how many words it was given
abbrev pub asked : Search → ℕ
asked s = s.asked

-- the place of the word that it wants: first how many areas there are, then the area in the middle of those that are left
abbrev pub wanted_at : (asked low high : ℕ) → Option ℕ
wanted_at asked low high = if asked == 0 then Some 0 else if nat_lt low high then Some (low + (high - low) / 2 + 1) else None

abbrev pub wanted : Search → Option ℕ
wanted s = wanted_at s.asked s.begun.low s.begun.high

-- the areas that begin at the page or before it are between two numbers, and the last of the lesser number has the word
pub record IsNarrowed (s : Search) (areas : List Area) (words : List ℕ) : Type 0 where
  pub parted : ArePartedAt areas s.page s.begun.low s.begun.high
  pub within : s.begun.high ≤ length areas
  pub last : s.begun.low ≢ 0 → s.last ≡ slice_index words s.begun.low

-- these words have all that it was given
abbrev pub AgreesWith : List ℕ → Search → Type 0
AgreesWith words s = (areas : List Area) → IsSpace areas → words_of_areas areas ≡ words → s.asked ≢ 0 → IsNarrowed s areas words
