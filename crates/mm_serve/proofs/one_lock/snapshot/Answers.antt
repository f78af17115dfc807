use Rattle.std.proofs.Common.{◌+◌, List, ap, sym, subst, ◌∙◌}
use Rattle.mm_serve.specs.Types.{Hand, Told}
use Rattle.lock_core.specs.Kinds.{unavailable}
use Rattle.guarded.specs.ObjectCopying.{HeldAlone}
use Rattle.guarded.proofs.Gathered.{all-gathered}
use Rattle.mm_serve.proofs.Passes.{still-done, still-known}
use Rattle.mm_serve.proofs.one_lock.snapshot.Goals as goal

pub returns-clause-copied : goal.returns-clause-copied
returns-clause-copied g c =
    let o = g.O.Object.object in
    let u = unavailable g.L.SleepLock.kind in
    let k = g.L.SiteLock.calls_on c.args.guarded.now.lock in
    let h = (g.L.SiteLock.view c.args.pass.now).hand in
    let b = (g.L.SiteLock.view c.begin.new.pass).hand in
    let e = (g.L.SiteLock.view c.end.new.pass).hand in
    still-known o u k b e c.snapshot.new.out (ap {A = Hand} (λ x. x.records) c.end.ensures.kept.0 ∙ c.snapshot.ensures.kept.records)
    (c.snapshot.ensures.legal (all-gathered o u k b (still-done o u k h b c.begin.ensures.done c.requires.done)))

pub returns-clause-held : goal.returns-clause-held
returns-clause-held g c =
    let copies = c.snapshot.ensures.copied in
    let b = g.L.SiteLock.view c.begin.new.pass in
    let known = ap {A = Hand} (λ x. x.records) c.end.ensures.kept.0 ∙ c.snapshot.ensures.kept.records in record {
      entries = copies.entries;
      log_is = copies.log_is;
      task = b.hand.task;
      takes = b.hand.takes + 1;
      until = copies.last;
      held = subst (λ (records : List Told). HeldAlone b.hand.task (b.hand.takes + 1) records copies.entries c.snapshot.new.out.state copies.last) (sym known) copies.ended;
      goes_on = λ p t. c.end.ensures.on.goes_on p (copies.goes_on p t);
    }

pub returns-clause-goes_on : goal.returns-clause-goes_on
returns-clause-goes_on g c = λ p t. c.end.ensures.on.goes_on p (c.snapshot.ensures.on.goes_on p (c.begin.ensures.on.goes_on p t))

pub returns-clause-queue : goal.returns-clause-queue
returns-clause-queue g c = λ p t. c.end.ensures.queue p (c.snapshot.ensures.queue p (c.begin.ensures.queue p t))
