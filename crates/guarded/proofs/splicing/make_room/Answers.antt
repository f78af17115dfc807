-- Nothing up to the place has been written, so what is moved is what was there at first.
use Rattle.std.proofs.Common.{◌≡◌, ◌+◌, ◌-◌, ◌<◌, length, slice_index, slice_set, refl, sym, ap, ◌∙◌, arith}
use Rattle.guarded.specs.Laws.Splicing.{changes-none, changes-more}
use Rattle.guarded.specs.Types.{Hand}
use Rattle.guarded.proofs.Passing.{spun-goes-on}
use Rattle.guarded.proofs.Spliced.{set-long}
use Rattle.guarded.proofs.Written.{looked, wrote-word, still-alone, same-known, roomed-more, others-same, roomed-none, roomed-all}
use Rattle.guarded.proofs.splicing.make_room.Goals as goal

pub returns-then-more-eq0-clause-kept : goal.returns-then-more-eq0-clause-kept
returns-then-more-eq0-clause-kept g c = changes-none (g.L.SiteLock.view c.args.pass.now)

pub returns-then-more-eq0-clause-moved : goal.returns-then-more-eq0-clause-moved
returns-then-more-eq0-clause-moved g c = roomed-none (g.L.SiteLock.view c.args.pass.now).hand.known c.args.at c.args.more c.if-more-eq0.true

pub loop-place-init : goal.loop-place-init
loop-place-init g c = (c.requires.own, changes-none (g.L.SiteLock.view c.args.pass.now), refl, c.requires.within, omega arith, (λ i l. refl), (λ i l. c.requires.zeros i (omega (arith, l)) ∙ sym (c.requires.zeros (i - c.args.more) (omega (arith, l)))), (λ p t. t))

pub word-word-requires-clause-held : goal.word-word-requires-clause-held
word-word-requires-clause-held g c = λ e. let alone = still-alone (g.L.SiteLock.view c.args.pass.now) (g.L.SiteLock.view c.loop-place.pass) c.loop-place.invariant.1 c.requires.held in absurd cc

pub set_word-requires-clause-held : goal.set_word-requires-clause-held
set_word-requires-clause-held g c =
    ap {A = Hand} (λ h. h.held) c.word-word.ensures.kept.0 ∙ still-alone (g.L.SiteLock.view c.args.pass.now) (g.L.SiteLock.view c.loop-place.pass) c.loop-place.invariant.1 c.requires.held

pub loop-place-preserved : goal.loop-place-preserved
loop-place-preserved g c =
    let v = g.L.SiteLock.view c.args.pass.now in
    let u = g.L.SiteLock.view c.loop-place.pass in
    let r = g.L.SiteLock.view c.word-word.new.pass in
    let w = g.L.SiteLock.view c.set_word.new.pass in
    let place = c.loop-place.place in
    let more = c.args.more in
    let word = c.word-word.result in
    let long = c.loop-place.invariant.2 in
    let whole = c.requires.long in
    let room = c.requires.room in
    let some = c.loop-place-test.true in
    let upper = c.loop-place.invariant.4 in
    let below : place + more < length u.hand.known = omega (arith, long, whole, room, upper) in
    let is : w.hand.known ≡ slice_set u.hand.known (place + more) word = ap {A = Hand} (λ h. h.known) c.set_word.ensures.kept.0 ∙ ap (λ xs. slice_set xs (place + more) word) (same-known u r c.word-word.ensures.kept) in
    let found : word ≡ slice_index v.hand.known place = c.word-word.ensures.value ∙ c.loop-place.invariant.5 place (omega arith) in (
      c.set_word.ensures.on.own,
      changes-more v u w c.loop-place.invariant.1 (changes-more u r w (looked u r c.word-word.ensures.on.goes_on c.word-word.ensures.kept) (wrote-word r w (place + more) word c.set_word.ensures.on.goes_on c.set_word.ensures.kept)),
      ap length is ∙ set-long u.hand.known (place + more) word ∙ long,
      omega (arith, some),
      omega (arith, upper),
      (λ i l. others-same v.hand.known u.hand.known w.hand.known (place + more) i word is (λ e. omega (arith, e, l, some)) (c.loop-place.invariant.5 i (omega (arith, l)))),
      roomed-more v.hand.known u.hand.known w.hand.known more place word below (omega (arith, some)) is found c.loop-place.invariant.6,
      (λ p t. spun-goes-on g.L.SleepLock.spun g.L.SiteLock.with_seat g.met.L.SleepLock.leaves c.word-word.new.pass c.set_word.new.pass _ c.set_word.ensures.beside p (spun-goes-on g.L.SleepLock.spun g.L.SiteLock.with_seat g.met.L.SleepLock.leaves c.loop-place.pass c.word-word.new.pass _ c.word-word.ensures.beside p (c.loop-place.invariant.7 p t))),
    )

pub returns-clause-moved : goal.returns-clause-moved
returns-clause-moved g c =
    roomed-all (g.L.SiteLock.view c.args.pass.now).hand.known (g.L.SiteLock.view c.loop-place.pass).hand.known c.args.at c.args.more c.loop-place.place c.loop-place.invariant.2 c.loop-place-test.false c.loop-place.invariant.3 c.loop-place.invariant.5 c.loop-place.invariant.6
