use Rattle.std.proofs.Common.{◌∙◌, sym}
use Rattle.lock_core.specs.Kinds.{unavailable}
use Rattle.mm_serve.proofs.Passes.{begun}
use Rattle.mm_serve.proofs.one_lock.begin.Goals as goal

pub returns-clause-serving : goal.returns-clause-serving
returns-clause-serving g c =
    let none = sym c.done.ensures ∙ c.await_none.ensures in
    begun g.O.Object.object (unavailable g.L.SleepLock.kind) (g.L.SiteLock.calls_on c.args.guarded.now.lock) (g.L.SiteLock.view c.args.pass.now).hand (g.L.SiteLock.view c.begin.new.pass).hand c.args.task c.requires.idle c.begin.ensures.became none (c.begin.ensures.fresh c.requires.unseen none)
