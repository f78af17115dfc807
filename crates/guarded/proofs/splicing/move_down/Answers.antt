-- Nothing from the place on has been written, so what is moved is what was there at first.
use Rattle.std.proofs.Common.{◌≡◌, ◌+◌, ◌-◌, ◌<◌, length, slice_index, slice_set, refl, ap, ◌∙◌, arith}
use Rattle.guarded.specs.Laws.Splicing.{changes-none, changes-more}
use Rattle.guarded.specs.Types.{Hand}
use Rattle.guarded.proofs.Passing.{spun-goes-on}
use Rattle.guarded.proofs.Spliced.{set-long}
use Rattle.guarded.proofs.Written.{looked, wrote-word, still-alone, same-known, closed-more, others-same, moved-down}
use Rattle.guarded.proofs.splicing.move_down.Goals as goal

pub loop-place-init : goal.loop-place-init
loop-place-init g c = let within = c.requires.within in (c.requires.own, changes-none (g.L.SiteLock.view c.args.pass.now), refl, omega arith, omega (arith, within), (λ i l. refl), (λ i a b. absurd (omega (arith, a, b))), (λ i l. refl), (λ p t. t))

pub word-word-requires-clause-held : goal.word-word-requires-clause-held
word-word-requires-clause-held g c = λ e. let alone = still-alone (g.L.SiteLock.view c.args.pass.now) (g.L.SiteLock.view c.loop-place.pass) c.loop-place.invariant.1 c.requires.held in absurd cc

pub set_word-requires-clause-held : goal.set_word-requires-clause-held
set_word-requires-clause-held g c =
    ap {A = Hand} (λ h. h.held) c.word-word.ensures.kept.0 ∙ still-alone (g.L.SiteLock.view c.args.pass.now) (g.L.SiteLock.view c.loop-place.pass) c.loop-place.invariant.1 c.requires.held

pub loop-place-preserved : goal.loop-place-preserved
loop-place-preserved g c =
    let v = g.L.SiteLock.view c.args.pass.now in
    let u = g.L.SiteLock.view c.loop-place.pass in
    let r = g.L.SiteLock.view c.word-word.new.pass in
    let w = g.L.SiteLock.view c.set_word.new.pass in
    let place = c.loop-place.place in
    let word = c.word-word.result in
    let long = c.loop-place.invariant.2 in
    let whole = c.requires.long in
    let few = c.requires.few in
    let inside = c.loop-place-test.true in
    let from = c.loop-place.invariant.3 in
    let below : place < length u.hand.known = omega (arith, long, whole, few, inside) in
    let is : w.hand.known ≡ slice_set u.hand.known place word = ap {A = Hand} (λ h. h.known) c.set_word.ensures.kept.0 ∙ ap (λ xs. slice_set xs place word) (same-known u r c.word-word.ensures.kept) in
    let found : word ≡ slice_index v.hand.known (place + c.args.fewer) = c.word-word.ensures.value ∙ c.loop-place.invariant.7 (place + c.args.fewer) (omega arith) in (
      c.set_word.ensures.on.own,
      changes-more v u w c.loop-place.invariant.1 (changes-more u r w (looked u r c.word-word.ensures.on.goes_on c.word-word.ensures.kept) (wrote-word r w place word c.set_word.ensures.on.goes_on c.set_word.ensures.kept)),
      ap length is ∙ set-long u.hand.known place word ∙ long,
      omega (arith, from),
      omega (arith, inside),
      (λ i l. others-same v.hand.known u.hand.known w.hand.known place i word is (λ e. omega (arith, e, l, from)) (c.loop-place.invariant.5 i l)),
      closed-more v.hand.known u.hand.known w.hand.known c.args.at c.args.fewer place word below from is found c.loop-place.invariant.6,
      (λ i l. others-same v.hand.known u.hand.known w.hand.known place i word is (λ e. omega (arith, e, l)) (c.loop-place.invariant.7 i (omega (arith, l)))),
      (λ p t. spun-goes-on g.L.SleepLock.spun g.L.SiteLock.with_seat g.met.L.SleepLock.leaves c.word-word.new.pass c.set_word.new.pass _ c.set_word.ensures.beside p (spun-goes-on g.L.SleepLock.spun g.L.SiteLock.with_seat g.met.L.SleepLock.leaves c.loop-place.pass c.word-word.new.pass _ c.word-word.ensures.beside p (c.loop-place.invariant.8 p t))),
    )

pub returns-clause-moved : goal.returns-clause-moved
returns-clause-moved g c =
    moved-down (g.L.SiteLock.view c.args.pass.now).hand.known (g.L.SiteLock.view c.loop-place.pass).hand.known c.args.at c.args.fewer (c.args.len - c.args.fewer) c.loop-place.place c.loop-place.invariant.2 c.loop-place-test.false c.loop-place.invariant.4 c.loop-place.invariant.5 c.loop-place.invariant.6 c.loop-place.invariant.7
