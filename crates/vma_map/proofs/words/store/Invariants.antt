-- The number and the words so far stand before zeros.
use Rattle.std.proofs.Common.{◌≡◌, ◌-◌, ◌∷◌, ◌++◌, length, map, replicate, take}
use Rattle.word_bits.specs.AreaWord.{area_word}
use Rattle.vma_map.proofs.words.store.Given as goal

abbrev pub invariant-loop-i : goal.invariant-loop-i
invariant-loop-i l =
    l.out ≡ length l.areas ∷ (map area_word (take l.i l.areas) ++ replicate (256 - l.i) 0)
