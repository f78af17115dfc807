use Rattle.std.proofs.Common.{slice_index, ap, ◌∙◌, arith}
use Rattle.guarded.proofs.Passing.{looks-trans, spun-goes-on}
use Rattle.guarded.proofs.Copied.{state-pushed}
use Rattle.guarded.proofs.guarded.Guarded.copy_state.Goals as goal

pub loop-at-preserved : goal.loop-at-preserved
loop-at-preserved g c =
    let v = g.L.SiteLock.view c.args.pass.now in
    let u = g.L.SiteLock.view c.loop-at.pass in
    let w = g.L.SiteLock.view c.word.new.pass in
    let inside = c.loop-at-test.true in
    let end = c.WORDS-at-end.ensures in
    let sized = c.requires.sized in (
      c.word.ensures.on.own,
      looks-trans v u w c.loop-at.invariant.1 c.word.ensures.kept,
      (λ p t. c.word.ensures.on.goes_on p (c.loop-at.invariant.2 p t)),
      state-pushed c.args.out.now c.loop-at.out c.push_state.new.self v.hand.known c.loop-at.at c.word.result (omega (arith, inside, end, sized)) c.loop-at.invariant.3 c.push_state.ensures (c.word.ensures.value ∙ ap (λ h. slice_index h.known c.loop-at.at) c.loop-at.invariant.1.0),
      (λ p t. spun-goes-on g.L.SleepLock.spun g.L.SiteLock.with_seat g.met.L.SleepLock.leaves c.loop-at.pass c.word.new.pass _ c.word.ensures.beside p (c.loop-at.invariant.4 p t)),
    )
