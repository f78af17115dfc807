use Rattle.std.proofs.Common.{◌++◌, ◌∷◌, [], sym, subst, append_assoc}
use Rattle.guarded.specs.Types.{Hand}
use Rattle.lock_core.specs.Layout.{record_place}
use Rattle.lock_core.specs.Views.{Knows}
use Rattle.guarded.proofs.Passing.{looks-trans, spun-goes-on}
use Rattle.guarded.proofs.Copied.{words-more, found-now, recs-pushed}
use Rattle.guarded.proofs.guarded.Guarded.copy_task.Goals as goal

pub loop-call-preserved : goal.loop-call-preserved
loop-call-preserved g c =
    let k = g.L.SiteLock.calls_on c.args.self.now.lock in
    let v = g.L.SiteLock.view c.args.pass.now in
    let u = g.L.SiteLock.view c.loop-call.pass in
    let w = g.L.SiteLock.view c.rec_word.new.pass in
    let same = c.loop-call.invariant.1.0 in
    let words = c.loop-call.invariant.3.0 in (
      c.rec_word.ensures.on.own,
      looks-trans v u w c.loop-call.invariant.1 c.rec_word.ensures.kept,
      (λ p t. c.rec_word.ensures.on.goes_on p (c.loop-call.invariant.2 p t)),
      (
        words ++ c.rec_word.result ∷ [],
        words-more k v.hand v.past u.past w.past c.args.task c.loop-call.call c.rec_word.result words c.loop-call.invariant.3.1 c.rec_word.ensures.on.goes_on (λ r knows. c.rec_word.ensures.known r (subst (λ (h : Hand). Knows h (record { task = c.args.task; call = c.loop-call.call }) r) (sym same) knows)) c.rec_word.ensures.made
            (found-now (record_place k c.args.task c.loop-call.call) c.rec_word.result v.past w.past (λ p t. c.rec_word.ensures.on.goes_on p (c.loop-call.invariant.2 p t)) c.rec_word.ensures.found),
        recs-pushed c.args.out.now c.loop-call.out c.push_rec.new.self (c.args.out.now.recs ++ words) (c.rec_word.result ∷ []) _ c.loop-call.invariant.3.2 c.push_rec.ensures (append_assoc c.args.out.now.recs words (c.rec_word.result ∷ [])),
      ),
      (λ p t. spun-goes-on g.L.SleepLock.spun g.L.SiteLock.with_seat g.met.L.SleepLock.leaves c.loop-call.pass c.rec_word.new.pass _ c.rec_word.ensures.beside p (c.loop-call.invariant.4 p t)),
    )
