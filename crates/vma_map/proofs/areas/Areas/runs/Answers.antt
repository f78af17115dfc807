-- The areas are the runs of what they say.
use Rattle.std.proofs.Common.{sym, ap, ◌∙◌}
use Rattle.word_bits.specs.PageMaps.{runs}
use Rattle.vma_map.specs.Runs.{page_map}
use Rattle.vma_map.specs.Laws.PageRun.{runs-page_map}
use Rattle.vma_map.proofs.areas.Areas.runs.Goals as goal

pub returns : goal.returns
returns c =
    c.as_slice.ensures.value ∙ sym (runs-page_map c.self.inside.areas.items c.self.invariant.runs) ∙ ap (λ areas. runs (page_map areas)) c.self.view_is
