-- Each area's pages are counted once.
use Rattle.std.proofs.Common.{◌+◌, take, sym, ap, ◌∙◌, arith}
use Rattle.std.proofs.lemmas.List.{take_all}
use Rattle.word_bits.specs.PageMaps.{mapped_from}
use Rattle.vma_map.specs.Runs.{page_map}
use Rattle.vma_map.proofs.RangeLemmas.{no_area, AreRuns-at}
use Rattle.vma_map.proofs.WordLemmas.{AreRuns-take}
use Rattle.vma_map.proofs.CountLemmas.{covered, covered-more, covered-le, mapped_from-page_map}
use Rattle.vma_map.proofs.areas.Areas.pages.Goals as goal

pub overflow_sub-pages : goal.overflow_sub-pages
overflow_sub-pages c =
    let some = (AreRuns-at _ c.loop-area.area-index no_area c.loop-area-test.true (rw c.as_slice-area-items.ensures.value c.self.invariant.runs)).some in
    omega arith

pub overflow_add-pages : goal.overflow_add-pages
overflow_add-pages c =
    let areas = c.as_slice-area-items.result.now in
    let i = c.loop-area.area-index in
    let more = covered-more areas i no_area c.loop-area-test.true in
    let most = covered-le (take (i + 1) areas) (AreRuns-take (i + 1) areas (rw c.as_slice-area-items.ensures.value c.self.invariant.runs)) in
    let now = c.loop-area.invariant in
    omega arith

pub loop-area-preserved : goal.loop-area-preserved
loop-area-preserved c =
    let more = covered-more c.as_slice-area-items.result.now c.loop-area.area-index no_area c.loop-area-test.true in
    let now = c.loop-area.invariant in
    omega arith

pub returns : goal.returns
returns c =
    let areas = c.self.inside.areas.items in
    let done = c.loop-area.invariant ∙ ap covered (take_all c.loop-area.area-index c.as_slice-area-items.result.now c.loop-area-test.false) ∙ ap covered c.as_slice-area-items.ensures.value in
    done ∙ sym (mapped_from-page_map areas c.self.invariant.runs) ∙ ap (λ xs. mapped_from (page_map xs) 0 1048576) c.self.view_is
