-- Each area's share of the range is counted once.
use Rattle.std.proofs.Common.{◌≡◌, ◌+◌, ◌<◌, ◌≤◌, ◌⊎◌, inl, inr, min, Some, ℕ, List, length, take, sym, ap, subst, ◌∙◌, arith}
use Rattle.std.specs.List.{AllByRecursion, slice_get}
use Rattle.std.proofs.lemmas.List.{take_all}
use Rattle.std.proofs.lemmas.Option.{get_or_from_slice_get}
use Rattle.vma_map.proofs.RangeLemmas.{no_area}
use Rattle.vma_map.proofs.WordLemmas.{AreRuns-take}
use Rattle.vma_map.proofs.CountLemmas.{covered-le}
use Rattle.guarded.specs.CallServing.{share}
use Rattle.guarded.specs.Splicing.{HaveAreas, areas_in}
use Rattle.guarded.specs.Types.{Area}
use Rattle.guarded.proofs.Counting.{shares, shares-more, shares-le, shares-end, shares-ended, shares-front, counted-runs}
use Rattle.guarded.proofs.Passing.{looks-trans, spun-goes-on}
use Rattle.guarded.proofs.Spliced.{number-of}
use Rattle.guarded.proofs.Written.{same-known}
use Rattle.guarded.proofs.searching.count_readable.Goals as goal

pub area_at-area-requires-clause-areas : goal.area_at-area-requires-clause-areas
area_at-area-requires-clause-areas g c = subst HaveAreas (sym (same-known (g.L.SiteLock.view c.args.pass.now) (g.L.SiteLock.view c.loop-at.pass) c.loop-at.invariant.1)) c.requires.areas

-- the end of the range, or both ends lie behind all pages
fits : (start len end : ℕ) → end ≡ min (start + len) 4294967295 → (end ≡ start + len) ⊎ ((1048576 ≤ end) × (1048576 ≤ start + len))
fits start len end is = elim (native.Mathlib.Decide.dec_le (start + len) 4294967295) [
  | yes few ↦ inl (omega (arith, is, few))
  | no many ↦ inr (omega (arith, is, many), omega (arith, many))
]

pub loop-at-init : goal.loop-at-init
loop-at-init g c =
    let v = g.L.SiteLock.view c.args.pass.now in
    let u = g.L.SiteLock.view c.word-count.new.pass in
    let w = g.L.SiteLock.view c.count_ended_by-at.new.pass in
    let n = c.count_ended_by-at.result in
    let end = c.saturating_add-end.result in
    let ended = subst (λ (ws : List ℕ). AllByRecursion (λ (a : Area). a.end ≤ c.args.start) (take n (areas_in ws))) (same-known v u c.word-count.ensures.kept) c.count_ended_by-at.ensures.ended in (
      c.count_ended_by-at.ensures.on.own,
      looks-trans v u w c.word-count.ensures.kept c.count_ended_by-at.ensures.kept,
      (λ p t. c.count_ended_by-at.ensures.on.goes_on p (c.word-count.ensures.on.goes_on p t)),
      sym (shares-ended (take n (areas_in v.hand.known)) c.args.start end ended),
      (λ p t. c.count_ended_by-at.ensures.queue p (spun-goes-on g.L.SleepLock.spun g.L.SiteLock.with_seat g.met.L.SleepLock.leaves c.args.pass.now c.word-count.new.pass _ c.word-count.ensures.beside p t)),
    )

pub area_at-area-requires-clause-inside : goal.area_at-area-requires-clause-inside
area_at-area-requires-clause-inside g c =
    let v = g.L.SiteLock.view c.args.pass.now in
    let number = c.word-count.ensures.value ∙ number-of v.hand.known c.requires.areas in
    let same = ap (λ ws. length (areas_in ws)) (same-known v (g.L.SiteLock.view c.loop-at.pass) c.loop-at.invariant.1) in
    let inside = c.loop-at-test.true in
    omega (arith, number, same, inside)

pub overflow_add-pages : goal.overflow_add-pages
overflow_add-pages g c =
    let v = g.L.SiteLock.view c.args.pass.now in
    let areas = areas_in v.hand.known in
    let i = c.loop-at.at in
    let end = c.saturating_add-end.result in
    let number = c.word-count.ensures.value ∙ number-of v.hand.known c.requires.areas in
    let test = c.loop-at-test.true in
    let inside : i < length areas = omega (arith, number, test) in
    let is : slice_get areas i ≡ Some c.area_at-area.result = ap (λ ws. slice_get (areas_in ws) i) (sym (same-known v (g.L.SiteLock.view c.loop-at.pass) c.loop-at.invariant.1)) ∙ c.area_at-area.ensures.area in
    let more = shares-more areas i no_area c.args.start end inside ∙ ap (λ (a : Area). shares (take i areas) c.args.start end + share a c.args.start end) (get_or_from_slice_get areas i c.area_at-area.result no_area is) in
    let most = covered-le (take (i + 1) areas) (AreRuns-take (i + 1) areas c.requires.areas.space.runs) in
    let least = shares-le (take (i + 1) areas) c.args.start end in
    let now = c.loop-at.invariant.3 in
    let part = c.readable_between-pages.ensures in
    omega (arith, more, most, least, now, part)

pub loop-at-preserved : goal.loop-at-preserved
loop-at-preserved g c =
    let v = g.L.SiteLock.view c.args.pass.now in
    let u = g.L.SiteLock.view c.loop-at.pass in
    let w = g.L.SiteLock.view c.area_at-area.new.pass in
    let areas = areas_in v.hand.known in
    let i = c.loop-at.at in
    let end = c.saturating_add-end.result in
    let number = c.word-count.ensures.value ∙ number-of v.hand.known c.requires.areas in
    let test = c.loop-at-test.true in
    let inside : i < length areas = omega (arith, number, test) in
    let is : slice_get areas i ≡ Some c.area_at-area.result = ap (λ ws. slice_get (areas_in ws) i) (sym (same-known v u c.loop-at.invariant.1)) ∙ c.area_at-area.ensures.area in
    let more = shares-more areas i no_area c.args.start end inside ∙ ap (λ (a : Area). shares (take i areas) c.args.start end + share a c.args.start end) (get_or_from_slice_get areas i c.area_at-area.result no_area is) in
    let now = c.loop-at.invariant.3 in
    let part = c.readable_between-pages.ensures in (
      c.area_at-area.ensures.on.own,
      looks-trans v u w c.loop-at.invariant.1 c.area_at-area.ensures.kept,
      (λ p t. c.area_at-area.ensures.on.goes_on p (c.loop-at.invariant.2 p t)),
      omega (arith, more, now, part),
      (λ p t. c.area_at-area.ensures.queue p (c.loop-at.invariant.4 p t)),
    )

pub returns-clause-pages : goal.returns-clause-pages
returns-clause-pages g c =
    let v = g.L.SiteLock.view c.args.pass.now in
    let areas = areas_in v.hand.known in
    let end = c.saturating_add-end.result in
    let runs = c.requires.areas.space.runs in
    let is = c.saturating_add-end.ensures in
    let number = c.word-count.ensures.value ∙ number-of v.hand.known c.requires.areas in
    let out = c.loop-at-test.false in
    let whole = ap (λ xs. shares xs c.args.start end) (take_all c.loop-at.at areas (omega (arith, number, out))) in
    c.loop-at.invariant.3 ∙ (whole ∙ (shares-end areas c.args.start end (c.args.start + c.args.len) runs (fits c.args.start c.args.len end is) ∙ sym (counted-runs areas runs c.args.start c.args.len)))

pub returns-then-end-area-clause-pages : goal.returns-then-end-area-clause-pages
returns-then-end-area-clause-pages g c =
    let v = g.L.SiteLock.view c.args.pass.now in
    let u = g.L.SiteLock.view c.loop-at.pass in
    let areas = areas_in v.hand.known in
    let i = c.loop-at.at in
    let end = c.saturating_add-end.result in
    let runs = c.requires.areas.space.runs in
    let number = c.word-count.ensures.value ∙ number-of v.hand.known c.requires.areas in
    let test = c.loop-at-test.true in
    let inside : i < length areas = omega (arith, number, test) in
    let is : slice_get areas i ≡ Some c.area_at-area.result = ap (λ ws. slice_get (areas_in ws) i) (sym (same-known v u c.loop-at.invariant.1)) ∙ c.area_at-area.ensures.area in
    let low = subst (λ (a : Area). end ≤ a.start) (sym (get_or_from_slice_get areas i c.area_at-area.result no_area is)) c.if-end-area.true in
    c.loop-at.invariant.3 ∙ (sym (shares-front areas i no_area c.args.start end runs inside low) ∙ (shares-end areas c.args.start end (c.args.start + c.args.len) runs (fits c.args.start c.args.len end c.saturating_add-end.ensures) ∙ sym (counted-runs areas runs c.args.start c.args.len)))
