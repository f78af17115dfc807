-- What was pushed are the first and the last.
use Rattle.std.proofs.Common.{◌≡◌, ◌+◌, ◌-◌, [], ◌∷◌, ◌++◌, Some, sym, ap, ◌∙◌, arith}
use Rattle.std.specs.List.{slice_get}
use Rattle.vma_map.proofs.EndsLemmas.{ends-one, ends-two}
use Rattle.vma_map.proofs.range.ends_of.Goals as goal

pub returns-then-count-gt1-clause-ends : goal.returns-then-count-gt1-clause-ends
returns-then-count-gt1-clause-ends g c =
    let areas = g.S.AreaStore.areas c.args.place.now c.args.hand.now in
    let a = c.get.result in
    let b = c.get-then-count-gt1.result in
    let at = c.args.at in
    let count = c.args.count in
    let last : slice_get areas (at + count - 1) ≡ Some b = ap (λ xs. slice_get xs (at + count - 1)) (sym c.get.ensures.same) ∙ c.get-then-count-gt1.ensures.area in
    c.push-then-count-gt1.ensures.items ∙ ap (λ xs. xs ++ b ∷ []) (c.push.ensures.items ∙ ap (λ xs. xs ++ a ∷ []) c.new-ends.ensures) ∙ sym (ends-two areas at count a b c.if-count-gt1.true c.requires.within c.get.ensures.area last)

pub returns-else-count-gt1-clause-ends : goal.returns-else-count-gt1-clause-ends
returns-else-count-gt1-clause-ends g c =
    let areas = g.S.AreaStore.areas c.args.place.now c.args.hand.now in
    let a = c.get.result in
    let some = c.if-count-eq0.false in
    let few = c.if-count-gt1.false in
    c.push.ensures.items ∙ ap (λ xs. xs ++ a ∷ []) c.new-ends.ensures ∙ sym (ends-one areas c.args.at c.args.count a (omega (arith, some, few)) c.get.ensures.area)
