-- Each word that is given stands at the place that was wanted.
use Rattle.std.proofs.Common.{◌≡◌, slice_index, IfSome, refl, sym, subst, ◌∙◌}
use Rattle.vma_map.proofs.words.find.Goals as goal

pub loop-at-preserved : goal.loop-at-preserved
loop-at-preserved c =
    let words = c.args.words.now in (
      c.give.ensures.page ∙ c.loop-at.invariant.0,
      c.give.ensures.agrees words (subst (λ o. IfSome o (λ i. slice_index words i ≡ slice_index words c.in-Some.at)) (sym c.in-Some.is ∙ c.want.ensures.is) refl) c.loop-at.invariant.1,
    )
