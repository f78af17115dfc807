-- The areas of a space in its words, and what is left of the words where pieces come in.
use Rattle.std.specs.Prelude.{◌≡◌, ℕ, ◌+◌, ◌-◌, ◌/◌, ◌%◌, ◌^◌, ◌<◌, ◌≤◌, List, length, map, take, drop, slice_index}
use Rattle.lock_core.specs.Shown.{Shown, PastGoesOn}
use Rattle.vma_map.specs.Runs.{IsSpace, words_of_areas}
use Rattle.guarded.specs.Performing.{HasStored}
use Rattle.guarded.specs.Types.{Area}

-- the area that has this word
abbrev pub area_of : ℕ → Area
area_of word = record { start = word / 2 ^ 24; end = word / 2 ^ 3 % 2 ^ 21; prot = word % 2 ^ 3 }

-- the areas whose words follow their number
abbrev pub areas_in : List ℕ → List Area
areas_in words = map area_of (take (slice_index words 0) (drop 1 words))

-- the words are those of areas in order
pub record HaveAreas (words : List ℕ) : Type 0 where
  pub space : IsSpace (areas_in words)
  pub whole : words_of_areas (areas_in words) ≡ words

-- the guarded words alone have changed, and the pass may write
abbrev pub ChangesWords : Shown → Shown → Type 0
ChangesWords v u = PastGoesOn v u × HasStored u.hand.known v u

-- the words up to a place are as before, and those behind so many pieces are what followed so many areas
pub record MakeRoom (at count pieces : ℕ) (old new : List ℕ) : Type 0 where
  pub as_long : length new ≡ length old
  pub front : (i : ℕ) → i ≤ at → slice_index new i ≡ slice_index old i
  pub back : (i : ℕ) → at + pieces < i → slice_index new i ≡ slice_index old (i + count - pieces)

-- behind a place stand the words that stood so many places behind, up to the last area that is left, and all else is as before
pub record MovesDown (at fewer left : ℕ) (old new : List ℕ) : Type 0 where
  pub as_long : length new ≡ length old
  pub front : (i : ℕ) → i ≤ at → slice_index new i ≡ slice_index old i
  pub moved : (i : ℕ) → at < i → i ≤ left → slice_index new i ≡ slice_index old (i + fewer)
  pub back : (i : ℕ) → left < i → slice_index new i ≡ slice_index old i

-- the words behind a place and up to another are 0, and all else is as before
pub record IsCleared (from upto : ℕ) (old new : List ℕ) : Type 0 where
  pub as_long : length new ≡ length old
  pub front : (i : ℕ) → i ≤ from → slice_index new i ≡ slice_index old i
  pub zeros : (i : ℕ) → from < i → i ≤ upto → slice_index new i ≡ 0
  pub back : (i : ℕ) → upto < i → slice_index new i ≡ slice_index old i

-- the pieces' words stand behind so many areas, and all else is as before
pub record IsWritten (at : ℕ) (words old new : List ℕ) : Type 0 where
  pub as_long : length new ≡ length old
  pub front : (i : ℕ) → i ≤ at → slice_index new i ≡ slice_index old i
  pub pieces : (i : ℕ) → i < length words → slice_index new (at + 1 + i) ≡ slice_index words i
  pub back : (i : ℕ) → at + length words < i → slice_index new i ≡ slice_index old i
