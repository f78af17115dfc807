-- The pieces of the areas so far stand in the list.
use Rattle.std.proofs.Common.{◌≡◌, ℕ, ◌+◌, ◌≤◌, length, take}
use Rattle.vma_map.specs.Runs.{page_map, AreRuns}
use Rattle.vma_map.specs.Remaps.{with_moved}
use Rattle.vma_map.proofs.remapping.append_moved.Given as goal

abbrev pub invariant-loop-area : goal.invariant-loop-area
invariant-loop-area l = record {
  runs : AreRuns l.next.items;
  few : length l.next.items ≤ length l.fn.next.items + l.area-index;
  pages : (page : ℕ) → page_map l.next.items page ≡ with_moved (page_map l.fn.next.items) (page_map (take l.area-index l.areas)) l.from l.end l.to page;
}
