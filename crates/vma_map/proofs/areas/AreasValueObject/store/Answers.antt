-- The areas are the runs of what they say.
use Rattle.std.proofs.Common.{sym, ap, ◌∙◌, subst}
use Rattle.word_bits.specs.PageMaps.{IsPageMap, runs}
use Rattle.vma_map.specs.Runs.{page_map, words_of_areas}
use Rattle.vma_map.specs.Laws.PageRun.{runs-page_map}
use Rattle.vma_map.specs.Laws.Space.{IsPageMap-page_map}
use Rattle.vma_map.proofs.areas.AreasValueObject.store.Goals as goal

pub returns-clause-stored : goal.returns-clause-stored
returns-clause-stored c =
    c.store.ensures ∙ ap words_of_areas (c.as_slice.ensures.value ∙ sym (runs-page_map c.self.inside.areas.items c.self.invariant.runs) ∙ ap (λ areas. runs (page_map areas)) c.self.view_is)

pub returns-clause-sound : goal.returns-clause-sound
returns-clause-sound c =
    subst (λ areas. IsPageMap (page_map areas)) c.self.view_is (IsPageMap-page_map c.self.inside.areas.items c.self.invariant)
