use Rattle.std.proofs.Common.{◌∙◌, ap, sym, subst}
use Rattle.lock_core.specs.Kinds.{unavailable}
use Rattle.lock_core.specs.Shown.{Shown, IsLatestStep}
use Rattle.lock_core.specs.Views.{gave_up}
use Rattle.guarded.specs.Gathering.{KeepsDone}
use Rattle.mm_serve.specs.TaskServing.{IsServing}
use Rattle.mm_serve.specs.Types.{Hand}
use Rattle.mm_serve.proofs.Passes.{all-done, now-idle}
use Rattle.mm_serve.proofs.one_lock.end.Goals as goal

pub returns-clause-idle : goal.returns-clause-idle
returns-clause-idle g c = let same = ap {A = Shown} (λ v. v.hand) c.recall_queue.ensures.kept ∙ c.recall.ensures.kept.0 in
    now-idle g.O.Object.object (g.L.SiteLock.view c.args.pass.now).hand (g.L.SiteLock.view c.end.new.pass).hand c.requires.serving.quiet (c.end.ensures.kept.0 ∙ ap gave_up same)

pub returns-clause-done : goal.returns-clause-done
returns-clause-done g c = let k = g.L.SiteLock.calls_on c.args.guarded.now.lock in let same = ap {A = Shown} (λ v. v.hand) c.recall_queue.ensures.kept ∙ c.recall.ensures.kept.0 in
    all-done g.O.Object.object (unavailable g.L.SleepLock.kind) k (g.L.SiteLock.view c.args.pass.now).hand (g.L.SiteLock.view c.end.new.pass).hand c.args.task c.requires.serving c.requires.all
    (subst (λ (h : Hand). KeepsDone g.O.Object.object (unavailable g.L.SleepLock.kind) k h (g.L.SiteLock.view c.end.new.pass).hand) same c.end.ensures.done)

pub returns-clause-looks : goal.returns-clause-looks
returns-clause-looks g c = let k = g.L.SiteLock.calls_on c.args.guarded.now.lock in let same = ap {A = Shown} (λ v. v.hand) c.recall_queue.ensures.kept ∙ c.recall.ensures.kept.0 in record {
  pass = c.recall_queue.new.pass;
  looked = record {
    own = c.recall_queue.ensures.own;
    serving = subst (λ (h : Hand). IsServing g.O.Object.object (unavailable g.L.SleepLock.kind) k h c.args.task) (sym same) c.requires.serving;
    all = ap {A = Hand} (λ h. h.done) same ∙ c.requires.all;
    last = subst IsLatestStep (sym c.recall_queue.ensures.kept) c.recall.ensures.last;
    queue = c.recall_queue.ensures.told;
  };
  table = c.end.ensures.on.goes_on;
  queue = c.end.ensures.queue;
}
