-- An address space as a list of areas.
use Rattle.std.specs.Prelude.{◌≡◌, ◌≢◌, ℕ, ◌+◌, ◌-◌, ◌≤◌, ◌&&◌, nat_le, nat_lt, List, [], ◌∷◌, ◌++◌, length, map, replicate, take, drop, Some, None, if◌then◌else◌}
use Rattle.word_bits.specs.declared.area.Area.{Area}
use Rattle.word_bits.specs.AreaWord.{IsArea, area_word}
use Rattle.word_bits.specs.PageMaps.{PageMap}

-- what the areas say of a page
abbrev pub page_map : List Area → PageMap
page_map [] page = None
page_map (a ∷ areas) page = if nat_le a.start page && nat_lt page a.end then Some a.prot else page_map areas page

-- the next area begins at the end of this one or behind it, and has another protection where they touch
pub record Follows (a next : Area) : Type 0 where
  pub ascend : a.end ≤ next.start
  pub differ : a.end ≡ next.start → a.prot ≢ next.prot

-- areas in order, of which no two can be joined
abbrev pub AreRuns : List Area → Type 0
AreRuns [] = Unit {0}
AreRuns (a ∷ []) = IsArea a
AreRuns (a ∷ (next ∷ areas)) = IsArea a × Follows a next × AreRuns (next ∷ areas)

-- at most 256 areas in order
pub record IsSpace (areas : List Area) : Type 0 where
  pub runs : AreRuns areas
  pub few : length areas ≤ 256

-- the number of areas, their words, and zeros, in all 257 words
abbrev pub words_of_areas : List Area → List ℕ
words_of_areas areas = length areas ∷ map area_word areas ++ replicate (256 - length areas) 0

-- the areas with pieces in the place of so many from a place on
abbrev pub spliced : (at count : ℕ) → List Area → List Area → List Area
spliced at count pieces areas = take at areas ++ pieces ++ drop (at + count) areas

-- the last of an area and those behind it
abbrev pub last_of : Area → List Area → Area
last_of a [] = a
last_of a (next ∷ areas) = last_of next areas

-- of areas the first and the last
abbrev pub ends_of : List Area → List Area
ends_of [] = []
ends_of (a ∷ []) = a ∷ []
ends_of (a ∷ (next ∷ areas)) = a ∷ last_of next areas ∷ []
