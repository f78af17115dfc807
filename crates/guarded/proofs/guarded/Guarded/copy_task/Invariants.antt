use Rattle.std.proofs.Common.{◌≡◌, ℕ, List, ◌++◌}
use Rattle.lock_core.specs.Pasts.{GoesOn}
use Rattle.lock_core.specs.Shown.{PastGoesOn}
use Rattle.lock_core.specs.Locking.{Looks}
use Rattle.guarded.specs.ObjectCopying.{AreTaskWords}
use Rattle.guarded.proofs.guarded.Guarded.copy_task.Given as goal

abbrev pub invariant-loop-call : goal.invariant-loop-call
invariant-loop-call g l =
    g.L.SiteLock.sits l.self.lock l.pass
    × Looks (g.L.SiteLock.view l.fn.pass) (g.L.SiteLock.view l.pass)
    × PastGoesOn (g.L.SiteLock.view l.fn.pass) (g.L.SiteLock.view l.pass)
    × ((words : List ℕ) × AreTaskWords (g.L.SiteLock.calls_on l.self.lock) (g.L.SiteLock.view l.fn.pass).hand (g.L.SiteLock.view l.fn.pass).past (g.L.SiteLock.view l.pass).past l.task l.call words × (l.out ≡ record l.fn.out { recs = l.fn.out.recs ++ words }))
    × GoesOn (g.L.SleepLock.spun l.fn.pass) (g.L.SleepLock.spun l.pass)
