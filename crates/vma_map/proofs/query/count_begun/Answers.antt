-- The starts of the areas ascend.
use Rattle.std.proofs.Common.{◌≡◌, ◌+◌, ◌<◌, ◌≤◌, ℕ, Some, take, drop, length, sym, ap, subst, ◌∙◌, arith}
use Rattle.std.specs.List.{AllByRecursion, slice_get}
use Rattle.std.proofs.lemmas.Option.{slice_get_within}
use Rattle.word_bits.specs.declared.area.Area.{Area}
use Rattle.vma_map.proofs.CutLemmas.{starts_ascend}
use Rattle.vma_map.proofs.SearchLemmas.{front-upto, rest-behind}
use Rattle.vma_map.proofs.query.count_begun.Goals as goal

pub loop-middle-preserved-then-get-page : goal.loop-middle-preserved-then-get-page
loop-middle-preserved-then-get-page g c =
    let areas = g.S.AreaStore.areas c.args.place.now c.args.hand.now in
    let space = g.met.S.AreaStore.in_order c.args.place.now c.args.hand.now c.requires.has in
    let at = c.in-Some.middle in
    let is : slice_get areas at ≡ Some c.get.result = ap (λ xs. slice_get xs at) (sym c.loop-middle.invariant.2) ∙ c.get.ensures.area in
    let least = c.passes.ensures.least ∙ ap (λ (n : ℕ). n + 1) (sym c.in-Some.ensures.some) in
    let most = c.passes.ensures.most in (
      c.get.ensures.has,
      g.met.S.AreaStore.keeps_on c.args.place.now c.args.hand.now c.loop-middle.hand c.get.new.hand c.loop-middle.invariant.1 c.get.ensures.kept,
      c.get.ensures.same ∙ c.loop-middle.invariant.2,
      subst (λ (n : ℕ). n ≤ length areas) (sym most) c.loop-middle.invariant.3,
      subst (λ n. AllByRecursion (λ (a : Area). a.start ≤ c.args.page) (take n areas)) (sym least) (front-upto (λ (a : Area). a.start) areas (starts_ascend areas space.runs) c.args.page at c.get.result is c.if-get-page.true),
      subst (λ n. AllByRecursion (λ (a : Area). c.args.page < a.start) (drop n areas)) (sym most) c.loop-middle.invariant.5,
    )

pub loop-middle-preserved : goal.loop-middle-preserved
loop-middle-preserved g c =
    let areas = g.S.AreaStore.areas c.args.place.now c.args.hand.now in
    let space = g.met.S.AreaStore.in_order c.args.place.now c.args.hand.now c.requires.has in
    let at = c.in-Some.middle in
    let is : slice_get areas at ≡ Some c.get.result = ap (λ xs. slice_get xs at) (sym c.loop-middle.invariant.2) ∙ c.get.ensures.area in
    let least = c.fails.ensures.least in
    let most = c.fails.ensures.most ∙ sym c.in-Some.ensures.some in
    let below = slice_get_within areas at c.get.result is in (
      c.get.ensures.has,
      g.met.S.AreaStore.keeps_on c.args.place.now c.args.hand.now c.loop-middle.hand c.get.new.hand c.loop-middle.invariant.1 c.get.ensures.kept,
      c.get.ensures.same ∙ c.loop-middle.invariant.2,
      omega (arith, most, below),
      subst (λ n. AllByRecursion (λ (a : Area). a.start ≤ c.args.page) (take n areas)) (sym least) c.loop-middle.invariant.4,
      subst (λ n. AllByRecursion (λ (a : Area). c.args.page < a.start) (drop n areas)) (sym most) (rest-behind (λ (a : Area). a.start) areas (starts_ascend areas space.runs) c.args.page at c.get.result is c.if-get-page.false),
    )
