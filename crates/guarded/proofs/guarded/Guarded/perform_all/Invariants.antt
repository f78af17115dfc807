use Rattle.std.proofs.Common.{◌≡◌, List, Some, None}
use Rattle.lock_core.specs.Kinds.{unavailable}
use Rattle.lock_core.specs.Pasts.{GoesOn}
use Rattle.lock_core.specs.Shown.{PastGoesOn}
use Rattle.guarded.specs.Gathering.{HasDoneSoFar}
use Rattle.guarded.specs.Types.{Rec, No}
use Rattle.guarded.proofs.guarded.Guarded.perform_all.Given as goal

abbrev pub invariant-loop-call : goal.invariant-loop-call
invariant-loop-call g l =
    g.L.SiteLock.sits l.self.lock l.pass
    × PastGoesOn (g.L.SiteLock.view l.fn.pass) (g.L.SiteLock.view l.pass)
    × ((g.L.SiteLock.view l.pass).hand.task ≡ Some l.task)
    × ((g.L.SiteLock.view l.pass).hand.held ≡ No)
    × ((g.L.SiteLock.view l.pass).hand.sent ≡ None)
    × ((g.L.SiteLock.view l.pass).hand.consumed ≡ 0)
    × ((rs : List Rec) × HasDoneSoFar g.O.Object.object (unavailable g.L.SleepLock.kind) (g.L.SiteLock.calls_on l.self.lock) (g.L.SiteLock.view l.pass).hand l.task l.call rs)
    × GoesOn (g.L.SleepLock.spun l.fn.pass) (g.L.SleepLock.spun l.pass)
