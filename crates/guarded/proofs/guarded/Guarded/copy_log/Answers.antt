use Rattle.std.proofs.Common.{slice_get, ap, ◌∙◌, arith}
use Rattle.guarded.specs.Types.{Hand}
use Rattle.guarded.proofs.Passing.{looks-trans, spun-goes-on}
use Rattle.lock_core.specs.Kinds.{unavailable}
use Rattle.guarded.proofs.Unavailable.{chronicles-so}
use Rattle.guarded.proofs.Copied.{log-more, log-pushed}
use Rattle.guarded.proofs.guarded.Guarded.copy_log.Goals as goal

pub loop-at-preserved : goal.loop-at-preserved
loop-at-preserved g c =
    let v = g.L.SiteLock.view c.args.pass.now in
    let u = g.L.SiteLock.view c.loop-at.pass in
    let w = g.L.SiteLock.view c.log_word.new.pass in
    let same = c.loop-at.invariant.1.0 in
    let inside = c.loop-at-test.true in
    let end = c.log_len-len.ensures.value in (
      c.log_word.ensures.on.own,
      looks-trans v u w c.loop-at.invariant.1 c.log_word.ensures.kept,
      (λ p t. c.log_word.ensures.on.goes_on p (c.loop-at.invariant.2 p t)),
      log-pushed c.args.out.now c.loop-at.out c.push_log.new.self _ _ c.log_word.result c.loop-at.invariant.3 c.push_log.ensures
          (log-more v.hand.log c.loop-at.at c.log_word.result (omega (arith, inside, end)) (λ e at. c.log_word.ensures.value e (ap {A = Hand} (λ h. slice_get h.log c.loop-at.at) same ∙ at))),
      (λ p t. spun-goes-on g.L.SleepLock.spun g.L.SiteLock.with_seat g.met.L.SleepLock.leaves c.loop-at.pass c.log_word.new.pass _ c.log_word.ensures.beside p (c.loop-at.invariant.4 p t)),
    )

pub returns-clause-history : goal.returns-clause-history
returns-clause-history g c =
    let h = (g.L.SiteLock.view c.args.pass.now).hand in
    chronicles-so g.O.Object.object _ (unavailable g.L.SleepLock.kind) g.met.L.SleepLock.opens (g.L.SiteLock.calls_on c.args.self.now.lock) h.records h.log c.log_len-len.ensures.history
