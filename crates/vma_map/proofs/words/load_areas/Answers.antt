-- Words that no area has, or that are out of order, are those of no areas; others are those of one list.
use Rattle.std.proofs.Common.{sym, ap, ◌∙◌}
use Rattle.std.proofs.lemmas.List.{take_all}
use Rattle.std.proofs.lemmas.Bool.{false≢true}
use Rattle.vma_map.specs.Laws.Area.{map-area_word-injective}
use Rattle.vma_map.proofs.WordLemmas.{unpacks-none, unpacks-first}
use Rattle.vma_map.proofs.words.load_areas.Goals as goal

pub returns-in_err-area : goal.returns-in_err-area
returns-in_err-area c =
    rw c.from_residual.ensures (λ areas is. unpacks-none c.args.words.now c.loop-word.word-index c.loop-word-test.true c.in_err-area.ensures areas.items is)

pub returns-then-not-can_follow : goal.returns-then-not-can_follow
returns-then-not-can_follow c =
    let before = c.loop-word.invariant in
    λ areas is. false≢true (c.if-not-can_follow.ensures.1 (rw c.as_slice.ensures.value (unpacks-first c.args.words.now c.loop-word.word-index c.loop-word-test.true c.loop-word.areas.items before.runs before.words c.in_ok-area.area c.in_ok-area.ensures.1 areas.items is)))

pub returns : goal.returns
returns c =
    let all = c.loop-word.invariant in
    let same = all.words ∙ take_all c.loop-word.word-index c.args.words.now c.loop-word-test.false in
    ((all.runs, same), λ areas is. ap (λ items. record { items = items }) (map-area_word-injective areas.items c.loop-word.areas.items is.0 all.runs (is.1 ∙ sym same)))
