-- The first area that ends behind the start tells where the range ends at most.
use Rattle.std.proofs.Common.{◌≡◌, ◌+◌, ◌≤◌, ◌<◌, Some, drop, length, sym, ap, ◌∙◌, subst, arith}
use Rattle.std.specs.Prelude.{is_none}
use Rattle.std.specs.List.{AllByRecursion, slice_get}
use Rattle.std.proofs.lemmas.List.{drop_all}
use Rattle.word_bits.specs.declared.area.Area.{Area}
use Rattle.vma_map.specs.Runs.{page_map, AreRuns}
use Rattle.vma_map.specs.Spaces.{is_free}
use Rattle.vma_map.proofs.CutLemmas.{page_map-others}
use Rattle.vma_map.proofs.SearchLemmas.{ended-at, drop-element, AreRuns-drop}
use Rattle.vma_map.proofs.QueryLemmas.{each_page-same, is_free-first, is_free-none}
use Rattle.vma_map.proofs.query.is_free.Goals as goal

pub returns-then-at-len-clause-value : goal.returns-then-at-len-clause-value
returns-then-at-len-clause-value g c =
    let areas = g.S.AreaStore.areas c.args.place.now c.args.hand.now in
    let at = c.count_ended-at.result in
    let ended = ended-at areas at c.args.start c.count_ended-at.ensures.ended in
    let many : length areas ≤ at = let same = ap length c.count_ended-at.ensures.same in let n = c.len.ensures.count in let is = c.if-at-len.true in omega (arith, same, n, is) in
    sym (is_free-none c.args.start c.args.len) ∙ ap (λ xs. is_free (page_map xs) c.args.start c.args.len) (sym (drop_all at areas many)) ∙ each_page-same is_none (page_map (drop at areas)) (page_map areas) c.args.start c.args.len (page_map-others areas at c.args.start ended)

pub returns-clause-value : goal.returns-clause-value
returns-clause-value g c =
    let areas = g.S.AreaStore.areas c.args.place.now c.args.hand.now in
    let space = g.met.S.AreaStore.in_order c.args.place.now c.args.hand.now c.requires.has in
    let at = c.count_ended-at.result in
    let a = c.get.result in
    let ended = ended-at areas at c.args.start c.count_ended-at.ensures.ended in
    let is : slice_get areas at ≡ Some a = ap (λ xs. slice_get xs at) (sym (c.len.ensures.same ∙ c.count_ended-at.ensures.same)) ∙ c.get.ensures.area in
    let rest = drop-element areas at a is in
    let behind = subst (AllByRecursion (λ (b : Area). c.args.start + 1 ≤ b.end)) rest c.count_ended-at.ensures.others in
    let reach : c.args.start < a.end = let first = behind.0 in omega (arith, first) in
    is_free-first a (drop (at + 1) areas) c.args.start c.args.len (subst (λ xs. AreRuns xs) rest (AreRuns-drop areas at space.runs)) reach c.requires.some ∙ ap (λ xs. is_free (page_map xs) c.args.start c.args.len) (sym rest) ∙ each_page-same is_none (page_map (drop at areas)) (page_map areas) c.args.start c.args.len (page_map-others areas at c.args.start ended)
