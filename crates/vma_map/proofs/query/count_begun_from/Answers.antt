-- The starts of the areas ascend.
use Rattle.std.proofs.Common.{◌≡◌, ◌+◌, ◌<◌, ◌≤◌, Some, drop, length, sym, ap, ◌∙◌, arith}
use Rattle.std.specs.List.{AllByRecursion, slice_get}
use Rattle.std.proofs.lemmas.Option.{slice_get_within}
use Rattle.word_bits.specs.declared.area.Area.{Area}
use Rattle.vma_map.proofs.CutLemmas.{starts_ascend}
use Rattle.vma_map.proofs.SearchLemmas.{front-upto, rest-behind}
use Rattle.vma_map.proofs.query.count_begun_from.Goals as goal

pub returns-then-page-get-clause-others : goal.returns-then-page-get-clause-others
returns-then-page-get-clause-others g c =
    let areas = g.S.AreaStore.areas c.args.place.now c.args.hand.now in
    let space = g.met.S.AreaStore.in_order c.args.place.now c.args.hand.now c.requires.has in
    let is : slice_get areas c.loop-at.at ≡ Some c.get.result = ap (λ xs. slice_get xs c.loop-at.at) (sym c.loop-at.invariant.2) ∙ c.get.ensures.area in
    rest-behind (λ (a : Area). a.start) areas (starts_ascend areas space.runs) c.args.page c.loop-at.at c.get.result is c.if-page-get.true

pub loop-at-preserved : goal.loop-at-preserved
loop-at-preserved g c =
    let areas = g.S.AreaStore.areas c.args.place.now c.args.hand.now in
    let space = g.met.S.AreaStore.in_order c.args.place.now c.args.hand.now c.requires.has in
    let at = c.loop-at.at in
    let is : slice_get areas at ≡ Some c.get.result = ap (λ xs. slice_get xs at) (sym c.loop-at.invariant.2) ∙ c.get.ensures.area in
    let below = slice_get_within areas at c.get.result is in (
      c.get.ensures.has,
      g.met.S.AreaStore.keeps_on c.args.place.now c.args.hand.now c.loop-at.hand c.get.new.hand c.loop-at.invariant.1 c.get.ensures.kept,
      c.get.ensures.same ∙ c.loop-at.invariant.2,
      omega (arith, below),
      front-upto (λ (a : Area). a.start) areas (starts_ascend areas space.runs) c.args.page at c.get.result is c.if-page-get.false,
    )
