-- All words that were given are these.
use Rattle.std.proofs.Common.{◌≡◌, ◌-◌}
use Rattle.vma_map.specs.Searches.{AgreesWith, asked, page_of}
use Rattle.vma_map.proofs.words.find.Given as goal

abbrev pub invariant-loop-at : goal.invariant-loop-at
invariant-loop-at l = (page_of l.search ≡ l.page) × AgreesWith l.words l.search

abbrev pub decreases-loop-at : goal.decreases-loop-at
decreases-loop-at l = 10 - asked l.search
