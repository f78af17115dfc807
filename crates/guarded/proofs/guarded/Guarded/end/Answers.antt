use Rattle.lock_core.specs.Kinds.{unavailable}
use Rattle.guarded.proofs.Joining.{keeps-done}
use Rattle.guarded.proofs.guarded.Guarded.end.Goals as goal

pub returns-clause-done : goal.returns-clause-done
returns-clause-done g c = keeps-done g.O.Object.object (unavailable g.L.SleepLock.kind) (g.L.SiteLock.calls_on c.args.self.now.lock) (g.L.SiteLock.view c.args.pass.now).hand _ _ c.end.ensures.kept.0 (λ e r k. k)
