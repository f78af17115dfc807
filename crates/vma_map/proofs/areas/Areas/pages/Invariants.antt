-- The pages of the areas so far are counted.
use Rattle.std.proofs.Common.{◌≡◌, take}
use Rattle.vma_map.proofs.CountLemmas.{covered}
use Rattle.vma_map.proofs.areas.Areas.pages.Given as goal

abbrev pub invariant-loop-area : goal.invariant-loop-area
invariant-loop-area l = l.pages ≡ covered (take l.area-index l.area-items)
