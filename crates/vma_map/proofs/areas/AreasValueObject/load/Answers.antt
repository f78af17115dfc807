-- Words store the pages of the areas that they store, and else none.
use Rattle.std.proofs.Common.{ap, ◌∙◌}
use Rattle.word_bits.specs.PageMaps.{runs}
use Rattle.vma_map.specs.Runs.{words_of_areas}
use Rattle.vma_map.specs.Laws.PageRun.{runs-page_map}
use Rattle.vma_map.specs.Laws.Space.{IsPageMap-page_map, IsSpace-runs}
use Rattle.vma_map.proofs.areas.AreasValueObject.load.Goals as goal

pub returns-in_err-load-clause-none : goal.returns-in_err-load-clause-none
returns-in_err-load-clause-none c =
    rw c.from_residual.ensures (λ s is same. c.in_err-load.ensures (record { items = runs s }) (IsSpace-runs s is, same))

pub returns-clause-found : goal.returns-clause-found
returns-clause-found c =
    let found = c.in_ok-load.ensures.0 in
    (IsPageMap-page_map c.in_ok-load.field-0.items found.0, ap words_of_areas (runs-page_map c.in_ok-load.field-0.items found.0.runs) ∙ found.1)
