-- Words behind which all are 0.
use Rattle.std.proofs.Common.{◌≡◌, ℕ, zero, suc, ◌+◌, ◌≤◌, List, [], ◌∷◌, ◌++◌, length, map, replicate, slice_index, refl, arith}
use Rattle.word_bits.specs.AreaWord.{area_word}
use Rattle.vma_map.specs.Runs.{words_of_areas}
use Rattle.guarded.specs.CallServing.{AreZeroFrom}
use Rattle.guarded.specs.Types.{Area}

-- zeros
pub zeros-index : (n i : ℕ) → slice_index (replicate n 0) i ≡ 0
zeros-index zero i = refl
zeros-index (suc n) zero = refl
zeros-index (suc n) (suc i) = zeros-index n i

-- the words behind those of areas
areas-zero : (areas : List Area) (n i : ℕ) → length areas ≤ i → slice_index (map area_word areas ++ replicate n 0) i ≡ 0
areas-zero [] n i l = zeros-index n i
areas-zero (a ∷ areas) n zero l = absurd (omega (arith, l))
areas-zero (a ∷ areas) n (suc i) l = areas-zero areas n i (omega (arith, l))

pub space-zero : (areas : List Area) → AreZeroFrom (length areas + 1) (words_of_areas areas)
space-zero areas zero l = absurd (omega (arith, l))
space-zero areas (suc i) l = areas-zero areas _ i (omega (arith, l))
