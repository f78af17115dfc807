use Rattle.lock_core.specs.Kinds.{unavailable}
use Rattle.guarded.proofs.Joining.{keeps-done, knows-left, knows-right}
use Rattle.guarded.proofs.guarded.Guarded.gather.Goals as goal

pub returns-clause-done : goal.returns-clause-done
returns-clause-done g c = let v = (g.L.SiteLock.view c.args.into.now).hand in let w = (g.L.SiteLock.view c.args.other).hand in
    keeps-done g.O.Object.object (unavailable g.L.SleepLock.kind) (g.L.SiteLock.calls_on c.args.self.now.lock) v _ _ c.gather.ensures.kept.0 (knows-left v w)

pub returns-clause-done_by_other : goal.returns-clause-done_by_other
returns-clause-done_by_other g c = let v = (g.L.SiteLock.view c.args.into.now).hand in let w = (g.L.SiteLock.view c.args.other).hand in
    keeps-done g.O.Object.object (unavailable g.L.SleepLock.kind) (g.L.SiteLock.calls_on c.args.self.now.lock) w _ _ c.gather.ensures.kept.0 (knows-right v w)
