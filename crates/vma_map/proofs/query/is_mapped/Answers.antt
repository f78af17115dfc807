-- Each area that begins at the next page or before it maps the pages up to its end.
use Rattle.std.proofs.Common.{◌≡◌, ◌+◌, ◌<◌, ◌≤◌, Some, None, length, take, drop, sym, ap, subst, ◌∙◌, arith}
use Rattle.std.specs.List.{slice_get}
use Rattle.std.proofs.lemmas.List.{take_all}
use Rattle.vma_map.specs.Runs.{page_map}
use Rattle.vma_map.proofs.SearchLemmas.{ended-at, at-element, take-element}
use Rattle.vma_map.proofs.QueryLemmas.{IsMappedTo, IsMappedTo-start, IsMappedTo-more, is_mapped-areas, next_unmapped}
use Rattle.vma_map.proofs.query.is_mapped.Goals as goal
use Rattle.vma_map.proofs.query.is_mapped.Goals.{then-end-next-via-then-end-next, then-end-next-via-else-end-next+then-next-area}

pub loop-at-init : goal.loop-at-init
loop-at-init g c =
    let areas = g.S.AreaStore.areas c.args.place.now c.args.hand.now in
    let first = c.count_ended-first.result in (
      c.len-count.ensures.has,
      g.met.S.AreaStore.keeps_on c.args.place.now c.args.hand.now c.count_ended-first.new.hand c.len-count.new.hand c.count_ended-first.ensures.kept c.len-count.ensures.kept,
      c.len-count.ensures.same ∙ c.count_ended-first.ensures.same,
      IsMappedTo-start areas first c.args.start (ended-at areas first c.args.start c.count_ended-first.ensures.ended),
    )

pub returns-then-end-next-clause-value : goal.returns-then-end-next-clause-value
returns-then-end-next-clause-value g c =
    let areas = g.S.AreaStore.areas c.args.place.now c.args.hand.now in
    let space = g.met.S.AreaStore.in_order c.args.place.now c.args.hand.now c.requires.has in
    let i = c.loop-at.at in
    let a = c.get-area.result in
    let is : slice_get areas i ≡ Some a = ap (λ xs. slice_get xs i) (sym c.loop-at.invariant.2) ∙ c.get-area.ensures.area in
    let stops : c.loop-at.next < c.args.start + c.args.len → page_map areas c.loop-at.next ≡ None = λ below. elim c.then-end-next.branch [
      | then-end-next-via-then-end-next w ↦ absurd (let ended = w.if-end-next.true in omega (arith, ended, below))
      | then-end-next-via-else-end-next+then-next-area w ↦ next_unmapped areas (take i areas) a (drop (i + 1) areas) c.args.start c.loop-at.next (at-element areas i a is) space.runs c.loop-at.invariant.3 w.if-next-area.true
    ] in
    is_mapped-areas areas (take i areas) c.args.start c.args.len c.loop-at.next c.loop-at.invariant.3 stops

pub loop-at-preserved : goal.loop-at-preserved
loop-at-preserved g c =
    let areas = g.S.AreaStore.areas c.args.place.now c.args.hand.now in
    let space = g.met.S.AreaStore.in_order c.args.place.now c.args.hand.now c.requires.has in
    let i = c.loop-at.at in
    let a = c.get-area.result in
    let is : slice_get areas i ≡ Some a = ap (λ xs. slice_get xs i) (sym c.loop-at.invariant.2) ∙ c.get-area.ensures.area in
    let more = IsMappedTo-more areas (take i areas) a (drop (i + 1) areas) c.args.start c.loop-at.next (at-element areas i a is) space.runs c.loop-at.invariant.3 c.if-next-area.false in (
      c.get-area.ensures.has,
      g.met.S.AreaStore.keeps_on c.args.place.now c.args.hand.now c.loop-at.hand c.get-area.new.hand c.loop-at.invariant.1 c.get-area.ensures.kept,
      c.get-area.ensures.same ∙ c.loop-at.invariant.2,
      rw (take-element areas i a is, c.max-next.ensures) more,
    )

pub returns-clause-value : goal.returns-clause-value
returns-clause-value g c =
    let areas = g.S.AreaStore.areas c.args.place.now c.args.hand.now in
    let many : length areas ≤ c.loop-at.at = let same = ap length c.count_ended-first.ensures.same in let n = c.len-count.ensures.count in let out = c.loop-at-test.false in omega (arith, same, n, out) in
    let seen = subst (λ front. IsMappedTo areas front c.args.start c.loop-at.next) (take_all c.loop-at.at areas many) c.loop-at.invariant.3 in
    is_mapped-areas areas areas c.args.start c.args.len c.loop-at.next seen (λ _. seen.ends)
