-- The gap in front of each area is wide enough, or no free range begins up to its end.
use Rattle.std.proofs.Common.{◌≡◌, ◌+◌, ◌≤◌, Some, take, drop, sym, ap, subst, ◌∙◌}
use Rattle.std.specs.List.{slice_get}
use Rattle.std.proofs.lemmas.List.{take_all}
use Rattle.vma_map.proofs.SearchLemmas.{at-element, take-element}
use Rattle.vma_map.proofs.QueryLemmas.{HasNoGap, gap-start, gap-found, gap-within, gap-last, HasNoGap-more}
use Rattle.vma_map.proofs.query.lowest_free.Goals as goal

pub overflow_sub-area : goal.overflow_sub-area
overflow_sub-area g c =
    let areas = g.S.AreaStore.areas c.args.place.now c.args.hand.now in
    let space = g.met.S.AreaStore.in_order c.args.place.now c.args.hand.now c.requires.has in
    let i = c.loop-at.at in
    let a = c.get-area.result in
    let is : slice_get areas i ≡ Some a = ap (λ xs. slice_get xs i) (sym c.loop-at.invariant.2) ∙ c.get-area.ensures.area in
    gap-start areas (take i areas) a (drop (i + 1) areas) c.args.len c.loop-at.start (at-element areas i a is) space.runs c.loop-at.invariant.3

pub returns-then-len-area-clause-value : goal.returns-then-len-area-clause-value
returns-then-len-area-clause-value g c =
    let areas = g.S.AreaStore.areas c.args.place.now c.args.hand.now in
    let space = g.met.S.AreaStore.in_order c.args.place.now c.args.hand.now c.requires.has in
    let i = c.loop-at.at in
    let a = c.get-area.result in
    let is : slice_get areas i ≡ Some a = ap (λ xs. slice_get xs i) (sym c.loop-at.invariant.2) ∙ c.get-area.ensures.area in
    sym (gap-found areas (take i areas) a (drop (i + 1) areas) c.args.len c.loop-at.start (at-element areas i a is) space.runs c.loop-at.invariant.3 c.if-len-area.true)

pub loop-at-preserved : goal.loop-at-preserved
loop-at-preserved g c =
    let areas = g.S.AreaStore.areas c.args.place.now c.args.hand.now in
    let space = g.met.S.AreaStore.in_order c.args.place.now c.args.hand.now c.requires.has in
    let i = c.loop-at.at in
    let a = c.get-area.result in
    let is : slice_get areas i ≡ Some a = ap (λ xs. slice_get xs i) (sym c.loop-at.invariant.2) ∙ c.get-area.ensures.area in (
      c.get-area.ensures.has,
      g.met.S.AreaStore.keeps_on c.args.place.now c.args.hand.now c.loop-at.hand c.get-area.new.hand c.loop-at.invariant.1 c.get-area.ensures.kept,
      c.get-area.ensures.same ∙ c.loop-at.invariant.2,
      subst (λ front. HasNoGap areas front c.args.len a.end) (sym (take-element areas i a is)) (HasNoGap-more areas (take i areas) a (drop (i + 1) areas) c.args.len c.loop-at.start (at-element areas i a is) space.runs c.loop-at.invariant.3 c.if-len-area.false),
    )

pub overflow_sub-start : goal.overflow_sub-start
overflow_sub-start g c =
    let areas = g.S.AreaStore.areas c.args.place.now c.args.hand.now in
    let space = g.met.S.AreaStore.in_order c.args.place.now c.args.hand.now c.requires.has in
    gap-within areas c.args.len c.loop-at.start space.runs (subst (λ front. HasNoGap areas front c.args.len c.loop-at.start) (take_all c.loop-at.at areas (subst (λ n. n ≤ c.loop-at.at) c.len-count.ensures.count c.loop-at-test.false)) c.loop-at.invariant.3)

pub returns-clause-value : goal.returns-clause-value
returns-clause-value g c =
    let areas = g.S.AreaStore.areas c.args.place.now c.args.hand.now in
    let space = g.met.S.AreaStore.in_order c.args.place.now c.args.hand.now c.requires.has in
    sym (gap-last areas c.args.len c.loop-at.start space.runs (subst (λ front. HasNoGap areas front c.args.len c.loop-at.start) (take_all c.loop-at.at areas (subst (λ n. n ≤ c.loop-at.at) c.len-count.ensures.count c.loop-at-test.false)) c.loop-at.invariant.3) ∙ sym c.then_some.ensures)
