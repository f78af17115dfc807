-- The last area that begins at the page or before it has the page, or none has.
use Rattle.std.proofs.Common.{◌≡◌, ◌+◌, ◌-◌, ◌<◌, ◌≤◌, Some, take, drop, sym, ap, subst, ◌∙◌, arith}
use Rattle.std.specs.List.{AllByRecursion, slice_get}
use Rattle.std.proofs.lemmas.Option.{get_or_from_slice_get, slice_get_within}
use Rattle.word_bits.specs.declared.area.Area.{Area}
use Rattle.vma_map.proofs.CutLemmas.{none_to}
use Rattle.vma_map.proofs.FindLemmas.{begun_at, page_map-found, page_map-between}
use Rattle.vma_map.proofs.RangeLemmas.{no_area}
use Rattle.vma_map.proofs.query.prot_of.Goals as goal

pub returns-then-begun-eq0-clause-value : goal.returns-then-begun-eq0-clause-value
returns-then-begun-eq0-clause-value g c =
    let areas = g.S.AreaStore.areas c.args.place.now c.args.hand.now in
    let all = subst (λ n. AllByRecursion (λ (a : Area). c.args.page < a.start) (drop n areas)) c.if-begun-eq0.true c.count_begun-begun.ensures.others in
    sym (none_to areas c.args.page all c.args.page (omega arith))

pub returns-then-page-area-clause-value : goal.returns-then-page-area-clause-value
returns-then-page-area-clause-value g c =
    let areas = g.S.AreaStore.areas c.args.place.now c.args.hand.now in
    let space = g.met.S.AreaStore.in_order c.args.place.now c.args.hand.now c.requires.has in
    let begun = c.count_begun-begun.result in
    let a = c.get-area.result in
    let is : slice_get areas (begun - 1) ≡ Some a = ap (λ xs. slice_get xs (begun - 1)) (sym c.count_begun-begun.ensures.same) ∙ c.get-area.ensures.area in
    let below = slice_get_within areas (begun - 1) a is in
    let at = get_or_from_slice_get areas (begun - 1) a no_area is in
    let some = c.if-begun-eq0.false in
    let whole : begun ≡ begun - 1 + 1 = omega (arith, some) in
    let begin = subst (λ n. AllByRecursion (λ (b : Area). b.start ≤ c.args.page) (take n areas)) whole c.count_begun-begun.ensures.begun in
    let found = page_map-found areas (begun - 1) no_area a c.args.page space.runs below at (subst (λ (b : Area). b.start ≤ c.args.page) at (begun_at areas (begun - 1) no_area c.args.page below begin)) c.if-page-area.true in
    sym found.3

pub returns-else-page-area-clause-value : goal.returns-else-page-area-clause-value
returns-else-page-area-clause-value g c =
    let areas = g.S.AreaStore.areas c.args.place.now c.args.hand.now in
    let space = g.met.S.AreaStore.in_order c.args.place.now c.args.hand.now c.requires.has in
    let begun = c.count_begun-begun.result in
    let a = c.get-area.result in
    let is : slice_get areas (begun - 1) ≡ Some a = ap (λ xs. slice_get xs (begun - 1)) (sym c.count_begun-begun.ensures.same) ∙ c.get-area.ensures.area in
    let below = slice_get_within areas (begun - 1) a is in
    let at = get_or_from_slice_get areas (begun - 1) a no_area is in
    let some = c.if-begun-eq0.false in
    let whole : begun ≡ begun - 1 + 1 = omega (arith, some) in
    let behind = subst (λ n. AllByRecursion (λ (b : Area). c.args.page < b.start) (drop n areas)) whole c.count_begun-begun.ensures.others in
    sym (page_map-between areas (begun - 1) no_area c.args.page space.runs below (subst (λ (b : Area). b.end ≤ c.args.page) (sym at) c.if-page-area.false) behind)
