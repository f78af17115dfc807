-- Each word that is given is the one that was wanted, and the pass's words are those of the space.
use Rattle.std.proofs.Common.{◌≡◌, slice_index, IfSome, ℕ, List, Option, sym, ap, subst, ◌∙◌}
use Rattle.word_bits.specs.PageMaps.{runs}
use Rattle.guarded.specs.Types.{Hand}
use Rattle.vma_map.specs.Searches.{AgreesWith}
use Rattle.vma_map.specs.Spaces.{IsRunAt}
use Rattle.guarded.proofs.Passing.{looks-trans, spun-goes-on}
use Rattle.guarded.proofs.searching.find_page.Goals as goal

pub loop-at-preserved : goal.loop-at-preserved
loop-at-preserved g c =
    let v = g.L.SiteLock.view c.args.pass.now in
    let u = g.L.SiteLock.view c.loop-at.pass in
    let w = g.L.SiteLock.view c.word.new.pass in
    let at = c.in-Some.at in
    let value : slice_index v.hand.known at ≡ c.word.result = sym (c.word.ensures.value ∙ ap {A = Hand} (λ h. slice_index h.known at) c.loop-at.invariant.1.0) in (
      c.word.ensures.on.own,
      looks-trans v u w c.loop-at.invariant.1 c.word.ensures.kept,
      (λ p t. c.word.ensures.on.goes_on p (c.loop-at.invariant.2 p t)),
      c.give.ensures.page ∙ c.loop-at.invariant.3,
      c.give.ensures.agrees v.hand.known (subst (λ (o : Option ℕ). IfSome o (λ i. slice_index v.hand.known i ≡ c.word.result)) (sym c.in-Some.is ∙ c.want.ensures.is) value) c.loop-at.invariant.4,
      (λ p t. spun-goes-on g.L.SleepLock.spun g.L.SiteLock.with_seat g.met.L.SleepLock.leaves c.loop-at.pass c.word.new.pass _ c.word.ensures.beside p (c.loop-at.invariant.5 p t)),
    )

pub returns-clause-found : goal.returns-clause-found
returns-clause-found g c = λ m is same.
    let agrees = subst (λ (ws : List ℕ). AgreesWith ws c.loop-at.search) (sym same) c.loop-at.invariant.4 in
    subst (λ (p : ℕ). IsRunAt (runs m) m p c.answer.result) c.loop-at.invariant.3 (c.answer.ensures.found m is agrees)
