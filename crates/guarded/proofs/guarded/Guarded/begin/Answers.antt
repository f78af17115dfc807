use Rattle.std.proofs.Common.{refl}
use Rattle.lock_core.specs.Kinds.{unavailable}
use Rattle.guarded.proofs.Joining.{fresh-seen, keeps-done, knows-numbered}
use Rattle.guarded.proofs.guarded.Guarded.begin.Goals as goal

pub returns-clause-done : goal.returns-clause-done
returns-clause-done g c =
    let o = g.O.Object.object in
    let k = g.L.SiteLock.calls_on c.args.self.now.lock in
    let v = (g.L.SiteLock.view c.args.pass.now).hand in
    let u = (g.L.SiteLock.view c.begin.new.pass).hand in
    keeps-done o (unavailable g.L.SleepLock.kind) k v u u refl (knows-numbered o (unavailable g.L.SleepLock.kind) k v u c.args.task c.begin.ensures.became)

pub returns-clause-fresh : goal.returns-clause-fresh
returns-clause-fresh g c = λ none done. fresh-seen g.O.Object.object (unavailable g.L.SleepLock.kind) (g.L.SiteLock.calls_on c.args.self.now.lock) (g.L.SiteLock.view c.args.pass.now).hand (g.L.SiteLock.view c.begin.new.pass).hand c.args.task c.begin.ensures.became done none
