-- The areas from one range to the other are replaced by those of the moved pages.
use Rattle.std.proofs.Common.{◌≡◌, ◌+◌, List, length, take, drop, sym, ap, subst, ◌∙◌, arith}
use Rattle.word_bits.specs.declared.area.Area.{Area}
use Rattle.vma_map.specs.Runs.{page_map, AreRuns, IsSpace, spliced}
use Rattle.vma_map.specs.Remaps.{IsMoved}
use Rattle.vma_map.proofs.WordLemmas.{AreRuns-take}
use Rattle.vma_map.proofs.SearchLemmas.{AreRuns-drop}
use Rattle.vma_map.proofs.SpliceLemmas.{length-spliced}
use Rattle.vma_map.proofs.MoveLemmas.{AreRuns-replaced, IsMoved-spliced, many-moved}
use Rattle.vma_map.proofs.remapping.move_apart.Goals as goal

pub moved-next-requires-clause-runs : goal.moved-next-requires-clause-runs
moved-next-requires-clause-runs g c =
    let areas = g.S.AreaStore.areas c.args.place.now c.args.hand.now in
    let space = g.met.S.AreaStore.in_order c.args.place.now c.args.hand.now c.requires.has in
    let at = c.meeting-at.result.0 in
    let count = c.meeting-at.result.1 in
    let met : c.as_slice.result.now ≡ take count (drop at areas) = c.as_slice.ensures.value ∙ c.areas_at-met.ensures.all ∙ ap (λ (xs : List Area). take count (drop at xs)) c.meeting-at.ensures.same in
    subst AreRuns (sym met) (AreRuns-take count (drop at areas) (AreRuns-drop areas at space.runs))

pub returns-then-len-count-gt-MAX_AREAS-clause-many : goal.returns-then-len-count-gt-MAX_AREAS-clause-many
returns-then-len-count-gt-MAX_AREAS-clause-many g c =
    let areas = g.S.AreaStore.areas c.args.place.now c.args.hand.now in
    let space = g.met.S.AreaStore.in_order c.args.place.now c.args.hand.now c.requires.has in
    let at = c.meeting-at.result.0 in
    let count = c.meeting-at.result.1 in
    let met : c.as_slice.result.now ≡ take count (drop at areas) = c.as_slice.ensures.value ∙ c.areas_at-met.ensures.all ∙ ap (λ (xs : List Area). take count (drop at xs)) c.meeting-at.ensures.same in
    let ps = c.moved-next.result.items in
    let is = subst (λ (xs : List Area). IsMoved (page_map xs) c.args.start c.args.len c.args.to (page_map ps)) met c.moved-next.ensures.moved in
    let low = c.min.ensures in
    let high = c.max.ensures in
    let runs = AreRuns-replaced areas ps at count c.args.start c.args.len c.args.to c.min.result (c.max.result + c.args.len) c.meeting-at.ensures.before c.meeting-at.ensures.behind (omega (arith, low)) (omega (arith, low)) (omega (arith, high)) (omega (arith, high)) is space.runs c.moved-next.ensures.runs in
    let moved = IsMoved-spliced areas ps at count c.args.start c.args.len c.args.to c.min.result (c.max.result + c.args.len) c.meeting-at.ensures.before c.meeting-at.ensures.behind (omega (arith, low)) (omega (arith, low)) (omega (arith, high)) (omega (arith, high)) is in
    let long = length-spliced areas ps at count c.meeting-at.ensures.within in
    let all : c.len.result ≡ length areas = c.len.ensures.count ∙ ap length (c.areas_at-met.ensures.same ∙ c.meeting-at.ensures.same) in
    let pieces = c.len-2.ensures.value in
    let test = c.if-len-count-gt-MAX_AREAS.true in
    many-moved (page_map areas) (spliced at count ps areas) c.args.start c.args.len c.args.to runs moved (omega (arith, long, all, pieces, test))

pub splice-requires-clause-space : goal.splice-requires-clause-space
splice-requires-clause-space g c =
    let areas = g.S.AreaStore.areas c.args.place.now c.args.hand.now in
    let space = g.met.S.AreaStore.in_order c.args.place.now c.args.hand.now c.requires.has in
    let at = c.meeting-at.result.0 in
    let count = c.meeting-at.result.1 in
    let met : c.as_slice.result.now ≡ take count (drop at areas) = c.as_slice.ensures.value ∙ c.areas_at-met.ensures.all ∙ ap (λ (xs : List Area). take count (drop at xs)) c.meeting-at.ensures.same in
    let ps = c.moved-next.result.items in
    let is = subst (λ (xs : List Area). IsMoved (page_map xs) c.args.start c.args.len c.args.to (page_map ps)) met c.moved-next.ensures.moved in
    let low = c.min.ensures in
    let high = c.max.ensures in
    let runs = AreRuns-replaced areas ps at count c.args.start c.args.len c.args.to c.min.result (c.max.result + c.args.len) c.meeting-at.ensures.before c.meeting-at.ensures.behind (omega (arith, low)) (omega (arith, low)) (omega (arith, high)) (omega (arith, high)) is space.runs c.moved-next.ensures.runs in
    let long = length-spliced areas ps at count c.meeting-at.ensures.within in
    let last = c.len.ensures.same ∙ c.areas_at-met.ensures.same ∙ c.meeting-at.ensures.same in
    let all : c.len.result ≡ length areas = c.len.ensures.count ∙ ap length (c.areas_at-met.ensures.same ∙ c.meeting-at.ensures.same) in
    let pieces = c.len-2.ensures.value in
    let test = c.if-len-count-gt-MAX_AREAS.false in
    let space' : IsSpace (spliced at count ps areas) = record { runs = runs; few = omega (arith, long, all, pieces, test) } in
    rw (last, c.as_slice-2.ensures.value) space'

pub returns-clause-moved : goal.returns-clause-moved
returns-clause-moved g c =
    let areas = g.S.AreaStore.areas c.args.place.now c.args.hand.now in
    let space = g.met.S.AreaStore.in_order c.args.place.now c.args.hand.now c.requires.has in
    let at = c.meeting-at.result.0 in
    let count = c.meeting-at.result.1 in
    let met : c.as_slice.result.now ≡ take count (drop at areas) = c.as_slice.ensures.value ∙ c.areas_at-met.ensures.all ∙ ap (λ (xs : List Area). take count (drop at xs)) c.meeting-at.ensures.same in
    let ps = c.moved-next.result.items in
    let is = subst (λ (xs : List Area). IsMoved (page_map xs) c.args.start c.args.len c.args.to (page_map ps)) met c.moved-next.ensures.moved in
    let low = c.min.ensures in
    let high = c.max.ensures in
    let moved = IsMoved-spliced areas ps at count c.args.start c.args.len c.args.to c.min.result (c.max.result + c.args.len) c.meeting-at.ensures.before c.meeting-at.ensures.behind (omega (arith, low)) (omega (arith, low)) (omega (arith, high)) (omega (arith, high)) is in
    let last = c.len.ensures.same ∙ c.areas_at-met.ensures.same ∙ c.meeting-at.ensures.same in
    let now = c.splice.ensures.areas ∙ ap (λ (xs : List Area). spliced at count c.as_slice-2.result.now xs) last ∙ ap (λ (xs : List Area). spliced at count xs areas) c.as_slice-2.ensures.value in
    subst (λ (xs : List Area). IsMoved (page_map areas) c.args.start c.args.len c.args.to (page_map xs)) (sym now) moved
