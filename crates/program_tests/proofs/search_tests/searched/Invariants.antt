-- Each turn gives a word more, and ten are enough.
use Rattle.std.proofs.Common.{◌-◌}
use Rattle.vma_map.specs.Searches.{asked}
use Rattle.program_tests.proofs.search_tests.searched.Given as goal

abbrev pub decreases-loop-at : goal.decreases-loop-at
decreases-loop-at l = 10 - asked l.search
