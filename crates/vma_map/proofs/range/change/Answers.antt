-- The areas that meet the range are replaced by its pieces.
use Rattle.std.proofs.Common.{◌≡◌, ℕ, ◌+◌, ◌-◌, ◌<◌, ◌≤◌, List, length, take, drop, sym, ap, ◌∙◌, subst, arith}
use Rattle.std.specs.List.{AllByRecursion}
use Rattle.std.proofs.lemmas.Grind.{common_steps}
use Rattle.word_bits.specs.declared.area.Area.{Area}
use Rattle.vma_map.specs.Runs.{page_map, AreRuns, spliced, ends_of}
use Rattle.vma_map.specs.Spaces.{changed}
use Rattle.vma_map.proofs.ChangeLemmas.{ended-starts, front-begun, ends-runs, ends-end, ends-start, pieced-many, pieced-space, pieced-pages}
use Rattle.vma_map.proofs.range.change.Goals as goal

pub count_begun_from-requires-clause-front : goal.count_begun_from-requires-clause-front
count_begun_from-requires-clause-front g c =
    let areas = g.S.AreaStore.areas c.args.place.now c.args.hand.now in
    let space = g.met.S.AreaStore.in_order c.args.place.now c.args.hand.now c.requires.has in
    let begun = ended-starts areas c.count_ended-at.result c.args.start c.args.end space.runs c.requires.some c.count_ended-at.ensures.ended in
    subst (λ (xs : List Area). AllByRecursion (λ (a : Area). a.start ≤ c.args.end) (take c.count_ended-at.result xs)) (sym c.count_ended-at.ensures.same) begun

pub overflow_sub-count : goal.overflow_sub-count
overflow_sub-count g c =
    let areas = g.S.AreaStore.areas c.args.place.now c.args.hand.now in
    let space = g.met.S.AreaStore.in_order c.args.place.now c.args.hand.now c.requires.has in
    let at = c.count_ended-at.result in
    let begun = c.count_begun_from.result in
    let same = c.count_ended-at.ensures.same in
    let within = subst (λ (xs : List Area). begun ≤ length xs) same c.count_begun_from.ensures.within in
    let begin = subst (λ (xs : List Area). AllByRecursion (λ (a : Area). a.start ≤ c.args.end) (take begun xs)) same c.count_begun_from.ensures.begun in
    let behind = subst (λ (xs : List Area). AllByRecursion (λ (a : Area). c.args.end < a.start) (drop begun xs)) same c.count_begun_from.ensures.others in
    front-begun areas at begun c.args.start c.args.end space c.requires.some c.count_ended-at.ensures.within within c.count_ended-at.ensures.ended c.count_ended-at.ensures.others begin behind

pub pieces_of-pieces-requires-clause-runs : goal.pieces_of-pieces-requires-clause-runs
pieces_of-pieces-requires-clause-runs g c =
    let areas = g.S.AreaStore.areas c.args.place.now c.args.hand.now in
    let space = g.met.S.AreaStore.in_order c.args.place.now c.args.hand.now c.requires.has in
    let at = c.count_ended-at.result in
    let begun = c.count_begun_from.result in
    let same = c.count_ended-at.ensures.same in
    let within = subst (λ (xs : List Area). begun ≤ length xs) same c.count_begun_from.ensures.within in
    let begin = subst (λ (xs : List Area). AllByRecursion (λ (a : Area). a.start ≤ c.args.end) (take begun xs)) same c.count_begun_from.ensures.begun in
    let behind = subst (λ (xs : List Area). AllByRecursion (λ (a : Area). c.args.end < a.start) (drop begun xs)) same c.count_begun_from.ensures.others in
    let met : c.as_slice.result.now ≡ ends_of (take (begun - at) (drop at areas)) = c.as_slice.ensures.value ∙ c.ends_of-met.ensures.ends ∙ ap (λ (xs : List Area). ends_of (take (begun - at) (drop at xs))) (c.count_begun_from.ensures.same ∙ same) in
    subst AreRuns (sym met) (ends-runs areas at begun c.args.start c.args.end space c.requires.some c.count_ended-at.ensures.within within c.count_ended-at.ensures.ended c.count_ended-at.ensures.others begin behind)

pub pieces_of-pieces-requires-clause-ends : goal.pieces_of-pieces-requires-clause-ends
pieces_of-pieces-requires-clause-ends g c =
    let areas = g.S.AreaStore.areas c.args.place.now c.args.hand.now in
    let space = g.met.S.AreaStore.in_order c.args.place.now c.args.hand.now c.requires.has in
    let at = c.count_ended-at.result in
    let begun = c.count_begun_from.result in
    let same = c.count_ended-at.ensures.same in
    let within = subst (λ (xs : List Area). begun ≤ length xs) same c.count_begun_from.ensures.within in
    let begin = subst (λ (xs : List Area). AllByRecursion (λ (a : Area). a.start ≤ c.args.end) (take begun xs)) same c.count_begun_from.ensures.begun in
    let behind = subst (λ (xs : List Area). AllByRecursion (λ (a : Area). c.args.end < a.start) (drop begun xs)) same c.count_begun_from.ensures.others in
    let met : c.as_slice.result.now ≡ ends_of (take (begun - at) (drop at areas)) = c.as_slice.ensures.value ∙ c.ends_of-met.ensures.ends ∙ ap (λ (xs : List Area). ends_of (take (begun - at) (drop at xs))) (c.count_begun_from.ensures.same ∙ same) in
    subst (AllByRecursion (λ (a : Area). c.args.start ≤ a.end)) (sym met) (ends-end areas at begun c.args.start c.args.end space c.requires.some c.count_ended-at.ensures.within within c.count_ended-at.ensures.ended c.count_ended-at.ensures.others begin behind)

pub pieces_of-pieces-requires-clause-starts : goal.pieces_of-pieces-requires-clause-starts
pieces_of-pieces-requires-clause-starts g c =
    let areas = g.S.AreaStore.areas c.args.place.now c.args.hand.now in
    let space = g.met.S.AreaStore.in_order c.args.place.now c.args.hand.now c.requires.has in
    let at = c.count_ended-at.result in
    let begun = c.count_begun_from.result in
    let same = c.count_ended-at.ensures.same in
    let within = subst (λ (xs : List Area). begun ≤ length xs) same c.count_begun_from.ensures.within in
    let begin = subst (λ (xs : List Area). AllByRecursion (λ (a : Area). a.start ≤ c.args.end) (take begun xs)) same c.count_begun_from.ensures.begun in
    let behind = subst (λ (xs : List Area). AllByRecursion (λ (a : Area). c.args.end < a.start) (drop begun xs)) same c.count_begun_from.ensures.others in
    let met : c.as_slice.result.now ≡ ends_of (take (begun - at) (drop at areas)) = c.as_slice.ensures.value ∙ c.ends_of-met.ensures.ends ∙ ap (λ (xs : List Area). ends_of (take (begun - at) (drop at xs))) (c.count_begun_from.ensures.same ∙ same) in
    subst (AllByRecursion (λ (a : Area). a.start ≤ c.args.end)) (sym met) (ends-start areas at begun c.args.start c.args.end space c.requires.some c.count_ended-at.ensures.within within c.count_ended-at.ensures.ended c.count_ended-at.ensures.others begin behind)

pub returns-then-len-count-gt-MAX_AREAS-clause-few : goal.returns-then-len-count-gt-MAX_AREAS-clause-few
returns-then-len-count-gt-MAX_AREAS-clause-few g c =
    let areas = g.S.AreaStore.areas c.args.place.now c.args.hand.now in
    let space = g.met.S.AreaStore.in_order c.args.place.now c.args.hand.now c.requires.has in
    let at = c.count_ended-at.result in
    let begun = c.count_begun_from.result in
    let same = c.count_ended-at.ensures.same in
    let within = subst (λ (xs : List Area). begun ≤ length xs) same c.count_begun_from.ensures.within in
    let begin = subst (λ (xs : List Area). AllByRecursion (λ (a : Area). a.start ≤ c.args.end) (take begun xs)) same c.count_begun_from.ensures.begun in
    let behind = subst (λ (xs : List Area). AllByRecursion (λ (a : Area). c.args.end < a.start) (drop begun xs)) same c.count_begun_from.ensures.others in
    let met : c.as_slice.result.now ≡ ends_of (take (begun - at) (drop at areas)) = c.as_slice.ensures.value ∙ c.ends_of-met.ensures.ends ∙ ap (λ (xs : List Area). ends_of (take (begun - at) (drop at xs))) (c.count_begun_from.ensures.same ∙ same) in
    let ps = c.pieces_of-pieces.result.items in
    let pages = λ (q : ℕ). c.pieces_of-pieces.ensures.pages q ∙ ap (λ (xs : List Area). changed (page_map xs) c.args.start c.args.end c.args.prot q) met in
    let last = c.len.ensures.same ∙ c.ends_of-met.ensures.same ∙ c.count_begun_from.ensures.same ∙ same in
    let count : c.len.result ≡ length areas = c.len.ensures.count ∙ ap length (c.ends_of-met.ensures.same ∙ c.count_begun_from.ensures.same ∙ same) in
    rw (pieced-many areas at begun c.args.start c.args.end space c.requires.some c.count_ended-at.ensures.within within c.count_ended-at.ensures.ended c.count_ended-at.ensures.others begin behind ps c.args.prot c.pieces_of-pieces.ensures.runs pages) (grind (arith, common_steps))

pub splice-requires-clause-space : goal.splice-requires-clause-space
splice-requires-clause-space g c =
    let areas = g.S.AreaStore.areas c.args.place.now c.args.hand.now in
    let space = g.met.S.AreaStore.in_order c.args.place.now c.args.hand.now c.requires.has in
    let at = c.count_ended-at.result in
    let begun = c.count_begun_from.result in
    let same = c.count_ended-at.ensures.same in
    let within = subst (λ (xs : List Area). begun ≤ length xs) same c.count_begun_from.ensures.within in
    let begin = subst (λ (xs : List Area). AllByRecursion (λ (a : Area). a.start ≤ c.args.end) (take begun xs)) same c.count_begun_from.ensures.begun in
    let behind = subst (λ (xs : List Area). AllByRecursion (λ (a : Area). c.args.end < a.start) (drop begun xs)) same c.count_begun_from.ensures.others in
    let met : c.as_slice.result.now ≡ ends_of (take (begun - at) (drop at areas)) = c.as_slice.ensures.value ∙ c.ends_of-met.ensures.ends ∙ ap (λ (xs : List Area). ends_of (take (begun - at) (drop at xs))) (c.count_begun_from.ensures.same ∙ same) in
    let ps = c.pieces_of-pieces.result.items in
    let pages = λ (q : ℕ). c.pieces_of-pieces.ensures.pages q ∙ ap (λ (xs : List Area). changed (page_map xs) c.args.start c.args.end c.args.prot q) met in
    let last = c.len.ensures.same ∙ c.ends_of-met.ensures.same ∙ c.count_begun_from.ensures.same ∙ same in
    let count : c.len.result ≡ length areas = c.len.ensures.count ∙ ap length (c.ends_of-met.ensures.same ∙ c.count_begun_from.ensures.same ∙ same) in
    let fits : length areas - (begun - at) + length ps ≤ 256 = let test = c.if-len-count-gt-MAX_AREAS.false in let n = c.len-2.ensures.value in omega (arith, test, n, count) in
    rw (last, c.as_slice-2.ensures.value) (pieced-space areas at begun c.args.start c.args.end space c.requires.some c.count_ended-at.ensures.within within c.count_ended-at.ensures.ended c.count_ended-at.ensures.others begin behind ps c.args.prot c.pieces_of-pieces.ensures.runs pages fits)

pub returns-clause-few : goal.returns-clause-few
returns-clause-few g c =
    let areas = g.S.AreaStore.areas c.args.place.now c.args.hand.now in
    let space = g.met.S.AreaStore.in_order c.args.place.now c.args.hand.now c.requires.has in
    let at = c.count_ended-at.result in
    let begun = c.count_begun_from.result in
    let same = c.count_ended-at.ensures.same in
    let within = subst (λ (xs : List Area). begun ≤ length xs) same c.count_begun_from.ensures.within in
    let begin = subst (λ (xs : List Area). AllByRecursion (λ (a : Area). a.start ≤ c.args.end) (take begun xs)) same c.count_begun_from.ensures.begun in
    let behind = subst (λ (xs : List Area). AllByRecursion (λ (a : Area). c.args.end < a.start) (drop begun xs)) same c.count_begun_from.ensures.others in
    let met : c.as_slice.result.now ≡ ends_of (take (begun - at) (drop at areas)) = c.as_slice.ensures.value ∙ c.ends_of-met.ensures.ends ∙ ap (λ (xs : List Area). ends_of (take (begun - at) (drop at xs))) (c.count_begun_from.ensures.same ∙ same) in
    let ps = c.pieces_of-pieces.result.items in
    let pages = λ (q : ℕ). c.pieces_of-pieces.ensures.pages q ∙ ap (λ (xs : List Area). changed (page_map xs) c.args.start c.args.end c.args.prot q) met in
    let last = c.len.ensures.same ∙ c.ends_of-met.ensures.same ∙ c.count_begun_from.ensures.same ∙ same in
    let count : c.len.result ≡ length areas = c.len.ensures.count ∙ ap length (c.ends_of-met.ensures.same ∙ c.count_begun_from.ensures.same ∙ same) in
    let fits : length areas - (begun - at) + length ps ≤ 256 = let test = c.if-len-count-gt-MAX_AREAS.false in let n = c.len-2.ensures.value in omega (arith, test, n, count) in
    rw (pieced-many areas at begun c.args.start c.args.end space c.requires.some c.count_ended-at.ensures.within within c.count_ended-at.ensures.ended c.count_ended-at.ensures.others begin behind ps c.args.prot c.pieces_of-pieces.ensures.runs pages) (grind (arith, common_steps))

pub returns-clause-ok : goal.returns-clause-ok
returns-clause-ok g c =
    let areas = g.S.AreaStore.areas c.args.place.now c.args.hand.now in
    let space = g.met.S.AreaStore.in_order c.args.place.now c.args.hand.now c.requires.has in
    let at = c.count_ended-at.result in
    let begun = c.count_begun_from.result in
    let same = c.count_ended-at.ensures.same in
    let within = subst (λ (xs : List Area). begun ≤ length xs) same c.count_begun_from.ensures.within in
    let begin = subst (λ (xs : List Area). AllByRecursion (λ (a : Area). a.start ≤ c.args.end) (take begun xs)) same c.count_begun_from.ensures.begun in
    let behind = subst (λ (xs : List Area). AllByRecursion (λ (a : Area). c.args.end < a.start) (drop begun xs)) same c.count_begun_from.ensures.others in
    let met : c.as_slice.result.now ≡ ends_of (take (begun - at) (drop at areas)) = c.as_slice.ensures.value ∙ c.ends_of-met.ensures.ends ∙ ap (λ (xs : List Area). ends_of (take (begun - at) (drop at xs))) (c.count_begun_from.ensures.same ∙ same) in
    let ps = c.pieces_of-pieces.result.items in
    let pages = λ (q : ℕ). c.pieces_of-pieces.ensures.pages q ∙ ap (λ (xs : List Area). changed (page_map xs) c.args.start c.args.end c.args.prot q) met in
    let last = c.len.ensures.same ∙ c.ends_of-met.ensures.same ∙ c.count_begun_from.ensures.same ∙ same in
    let count : c.len.result ≡ length areas = c.len.ensures.count ∙ ap length (c.ends_of-met.ensures.same ∙ c.count_begun_from.ensures.same ∙ same) in
    ap page_map (c.splice.ensures.areas ∙ ap (λ (xs : List Area). spliced at (begun - at) c.as_slice-2.result.now xs) last ∙ ap (λ (xs : List Area). spliced at (begun - at) xs areas) c.as_slice-2.ensures.value) ∙ pieced-pages areas at begun c.args.start c.args.end space c.requires.some c.count_ended-at.ensures.within within c.count_ended-at.ensures.ended c.count_ended-at.ensures.others begin behind ps c.args.prot c.pieces_of-pieces.ensures.runs pages
