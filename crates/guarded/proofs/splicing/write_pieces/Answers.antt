-- Each piece is an area, and has its own word.
use Rattle.std.proofs.Common.{◌≡◌, ◌+◌, ◌<◌, length, map, slice_index, slice_set, refl, sym, ap, ◌∙◌, arith}
use Rattle.std.proofs.lemmas.List.{length-map, get_or-map}
use Rattle.word_bits.specs.AreaWord.{area_word}
use Rattle.vma_map.proofs.RangeLemmas.{no_area, AreRuns-at}
use Rattle.guarded.specs.Laws.Splicing.{changes-none, changes-more}
use Rattle.guarded.specs.Types.{Hand}
use Rattle.guarded.proofs.Passing.{spun-goes-on}
use Rattle.guarded.proofs.Spliced.{set-long}
use Rattle.guarded.proofs.Written.{wrote-word, still-alone, pieced-more, others-same, pieced-all}
use Rattle.guarded.proofs.splicing.write_pieces.Goals as goal

pub loop-i-init : goal.loop-i-init
loop-i-init g c = (c.requires.own, changes-none (g.L.SiteLock.view c.args.pass.now), refl, (λ i l. refl), (λ i l. absurd (omega (arith, l))), omega arith, (λ i l. refl), (λ p t. t))

pub pack-requires : goal.pack-requires
pack-requires g c = AreRuns-at c.args.pieces.now c.loop-i.i no_area c.loop-i-test.true c.requires.runs

pub set_word-requires-clause-held : goal.set_word-requires-clause-held
set_word-requires-clause-held g c = still-alone (g.L.SiteLock.view c.args.pass.now) (g.L.SiteLock.view c.loop-i.pass) c.loop-i.invariant.1 c.requires.held

pub loop-i-preserved : goal.loop-i-preserved
loop-i-preserved g c =
    let v = g.L.SiteLock.view c.args.pass.now in
    let u = g.L.SiteLock.view c.loop-i.pass in
    let w = g.L.SiteLock.view c.set_word.new.pass in
    let at = c.args.at in
    let n = c.loop-i.i in
    let word = c.pack.result in
    let long = c.loop-i.invariant.2 in
    let whole = c.requires.long in
    let room = c.requires.room in
    let inside = c.loop-i-test.true in
    let below : at + n + 1 < length u.hand.known = omega (arith, long, whole, room, inside) in
    let is : w.hand.known ≡ slice_set u.hand.known (at + n + 1) word = ap {A = Hand} (λ h. h.known) c.set_word.ensures.kept.0 in
    let found : word ≡ slice_index (map area_word c.args.pieces.now) n = c.pack.ensures ∙ sym (get_or-map area_word c.args.pieces.now n no_area 0 inside) in (
      c.set_word.ensures.on.own,
      changes-more v u w c.loop-i.invariant.1 (wrote-word u w (at + n + 1) word c.set_word.ensures.on.goes_on c.set_word.ensures.kept),
      ap length is ∙ set-long u.hand.known (at + n + 1) word ∙ long,
      (λ i l. others-same v.hand.known u.hand.known w.hand.known (at + n + 1) i word is (λ e. omega (arith, e, l)) (c.loop-i.invariant.3 i l)),
      pieced-more (map area_word c.args.pieces.now) u.hand.known w.hand.known at n word below is found c.loop-i.invariant.4,
      omega (arith, inside),
      (λ i l. others-same v.hand.known u.hand.known w.hand.known (at + n + 1) i word is (λ e. omega (arith, e, l)) (c.loop-i.invariant.6 i (omega (arith, l)))),
      (λ p t. spun-goes-on g.L.SleepLock.spun g.L.SiteLock.with_seat g.met.L.SleepLock.leaves c.loop-i.pass c.set_word.new.pass _ c.set_word.ensures.beside p (c.loop-i.invariant.7 p t)),
    )

pub returns-clause-written : goal.returns-clause-written
returns-clause-written g c =
    let all = c.loop-i-test.false in
    let few = c.loop-i.invariant.5 in
    let many = length-map c.args.pieces.now area_word in
    pieced-all (map area_word c.args.pieces.now) (g.L.SiteLock.view c.args.pass.now).hand.known (g.L.SiteLock.view c.loop-i.pass).hand.known c.args.at c.loop-i.i c.loop-i.invariant.2 (omega (arith, all, many)) (omega (arith, few, many)) c.loop-i.invariant.3 c.loop-i.invariant.4 c.loop-i.invariant.6
