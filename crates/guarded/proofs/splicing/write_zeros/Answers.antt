use Rattle.std.proofs.Common.{◌≡◌, ◌<◌, length, slice_set, refl, ap, ◌∙◌, arith}
use Rattle.guarded.specs.Laws.Splicing.{changes-none, changes-more}
use Rattle.guarded.specs.Types.{Hand}
use Rattle.guarded.proofs.Passing.{spun-goes-on}
use Rattle.guarded.proofs.Spliced.{set-long}
use Rattle.guarded.proofs.Written.{wrote-word, still-alone, others-same, cleared-more, cleared-all}
use Rattle.guarded.proofs.splicing.write_zeros.Goals as goal

pub loop-place-init : goal.loop-place-init
loop-place-init g c = let within = c.requires.within in (c.requires.own, changes-none (g.L.SiteLock.view c.args.pass.now), refl, omega arith, omega (arith, within), (λ i l. refl), (λ i a b. absurd (omega (arith, a, b))), (λ i l. refl), (λ p t. t))

pub set_word-requires-clause-held : goal.set_word-requires-clause-held
set_word-requires-clause-held g c = still-alone (g.L.SiteLock.view c.args.pass.now) (g.L.SiteLock.view c.loop-place.pass) c.loop-place.invariant.1 c.requires.held

pub loop-place-preserved : goal.loop-place-preserved
loop-place-preserved g c =
    let v = g.L.SiteLock.view c.args.pass.now in
    let u = g.L.SiteLock.view c.loop-place.pass in
    let w = g.L.SiteLock.view c.set_word.new.pass in
    let place = c.loop-place.place in
    let long = c.loop-place.invariant.2 in
    let whole = c.requires.long in
    let few = c.requires.few in
    let inside = c.loop-place-test.true in
    let from = c.loop-place.invariant.3 in
    let below : place < length u.hand.known = omega (arith, long, whole, few, inside) in
    let is : w.hand.known ≡ slice_set u.hand.known place 0 = ap {A = Hand} (λ h. h.known) c.set_word.ensures.kept.0 in (
      c.set_word.ensures.on.own,
      changes-more v u w c.loop-place.invariant.1 (wrote-word u w place 0 c.set_word.ensures.on.goes_on c.set_word.ensures.kept),
      ap length is ∙ set-long u.hand.known place 0 ∙ long,
      omega (arith, from),
      omega (arith, inside),
      (λ i l. others-same v.hand.known u.hand.known w.hand.known place i 0 is (λ e. omega (arith, e, l, from)) (c.loop-place.invariant.5 i l)),
      cleared-more u.hand.known w.hand.known c.args.at place below is c.loop-place.invariant.6,
      (λ i l. others-same v.hand.known u.hand.known w.hand.known place i 0 is (λ e. omega (arith, e, l)) (c.loop-place.invariant.7 i (omega (arith, l)))),
      (λ p t. spun-goes-on g.L.SleepLock.spun g.L.SiteLock.with_seat g.met.L.SleepLock.leaves c.loop-place.pass c.set_word.new.pass _ c.set_word.ensures.beside p (c.loop-place.invariant.8 p t)),
    )

pub returns-clause-zeros : goal.returns-clause-zeros
returns-clause-zeros g c =
    cleared-all (g.L.SiteLock.view c.args.pass.now).hand.known (g.L.SiteLock.view c.loop-place.pass).hand.known c.args.at c.args.len c.loop-place.place c.loop-place.invariant.2 c.loop-place-test.false c.loop-place.invariant.4 c.loop-place.invariant.5 c.loop-place.invariant.6 c.loop-place.invariant.7
