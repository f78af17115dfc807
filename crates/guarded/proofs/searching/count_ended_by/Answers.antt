-- The ends of the areas ascend.
use Rattle.std.proofs.Common.{◌≡◌, ◌+◌, ◌<◌, ◌≤◌, ℕ, Some, drop, length, take, sym, ap, subst, ◌∙◌, add-one, arith}
use Rattle.std.specs.List.{AllByRecursion, slice_get}
use Rattle.std.proofs.lemmas.Option.{get_or_from_slice_get, slice_get_within}
use Rattle.vma_map.proofs.RangeLemmas.{no_area}
use Rattle.guarded.specs.Splicing.{areas_in}
use Rattle.guarded.specs.Types.{Area}
use Rattle.guarded.proofs.Counting.{ended-by, ending-from}
use Rattle.guarded.proofs.Passing.{looks-trans}
use Rattle.guarded.proofs.Written.{same-known}
use Rattle.guarded.proofs.searching.count_ended_by.Goals as goal

pub loop-middle-preserved-then-area_at-page : goal.loop-middle-preserved-then-area_at-page
loop-middle-preserved-then-area_at-page g c =
    let v = g.L.SiteLock.view c.args.pass.now in
    let u = g.L.SiteLock.view c.loop-middle.pass in
    let areas = areas_in v.hand.known in
    let at = c.in-Some.middle in
    let is : slice_get areas at ≡ Some c.area_at.result = ap (λ ws. slice_get (areas_in ws) at) (sym (same-known v u c.loop-middle.invariant.1)) ∙ c.area_at.ensures.area in
    let least = c.passes.ensures.least ∙ ap (λ (n : ℕ). n + 1) (sym c.in-Some.ensures.some) in
    let most = c.passes.ensures.most in
    let below = slice_get_within areas at c.area_at.result is in (
      c.area_at.ensures.on.own,
      looks-trans v u (g.L.SiteLock.view c.area_at.new.pass) c.loop-middle.invariant.1 c.area_at.ensures.kept,
      (λ p t. c.area_at.ensures.on.goes_on p (c.loop-middle.invariant.2 p t)),
      subst (λ (n : ℕ). n ≤ length areas) (sym most) c.loop-middle.invariant.3,
      subst (λ n. AllByRecursion (λ (a : Area). a.end ≤ c.args.page) (take n areas)) (sym least) (subst (λ (n : ℕ). AllByRecursion (λ (a : Area). a.end ≤ c.args.page) (take n areas)) (sym (add-one at)) (ended-by areas at no_area c.args.page c.requires.areas.space.runs below (subst (λ (a : Area). a.end ≤ c.args.page) (sym (get_or_from_slice_get areas at c.area_at.result no_area is)) c.if-area_at-page.true))),
      subst (λ n. AllByRecursion (λ (a : Area). c.args.page < a.end) (drop n areas)) (sym most) c.loop-middle.invariant.5,
      (λ p t. c.area_at.ensures.queue p (c.loop-middle.invariant.6 p t)),
    )

pub loop-middle-preserved : goal.loop-middle-preserved
loop-middle-preserved g c =
    let v = g.L.SiteLock.view c.args.pass.now in
    let u = g.L.SiteLock.view c.loop-middle.pass in
    let areas = areas_in v.hand.known in
    let at = c.in-Some.middle in
    let is : slice_get areas at ≡ Some c.area_at.result = ap (λ ws. slice_get (areas_in ws) at) (sym (same-known v u c.loop-middle.invariant.1)) ∙ c.area_at.ensures.area in
    let least = c.fails.ensures.least in
    let most = c.fails.ensures.most ∙ sym c.in-Some.ensures.some in
    let below = slice_get_within areas at c.area_at.result is in (
      c.area_at.ensures.on.own,
      looks-trans v u (g.L.SiteLock.view c.area_at.new.pass) c.loop-middle.invariant.1 c.area_at.ensures.kept,
      (λ p t. c.area_at.ensures.on.goes_on p (c.loop-middle.invariant.2 p t)),
      omega (arith, most, below),
      subst (λ n. AllByRecursion (λ (a : Area). a.end ≤ c.args.page) (take n areas)) (sym least) c.loop-middle.invariant.4,
      subst (λ n. AllByRecursion (λ (a : Area). c.args.page < a.end) (drop n areas)) (sym most) (ending-from areas at no_area c.args.page c.requires.areas.space.runs below (subst (λ (a : Area). c.args.page < a.end) (sym (get_or_from_slice_get areas at c.area_at.result no_area is)) c.if-area_at-page.false)),
      (λ p t. c.area_at.ensures.queue p (c.loop-middle.invariant.6 p t)),
    )
