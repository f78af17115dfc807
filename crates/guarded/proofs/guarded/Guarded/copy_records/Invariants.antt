use Rattle.std.proofs.Common.{◌≡◌, ℕ, List, length}
use Rattle.lock_core.specs.Plans.{start}
use Rattle.lock_core.specs.Pasts.{GoesOn}
use Rattle.lock_core.specs.Shown.{PastGoesOn}
use Rattle.lock_core.specs.Locking.{Looks}
use Rattle.guarded.specs.ObjectCopying.{AreRecWords, joined}
use Rattle.guarded.proofs.guarded.Guarded.copy_records.Given as goal

abbrev pub invariant-loop-task : goal.invariant-loop-task
invariant-loop-task g l =
    g.L.SiteLock.sits l.self.lock l.pass
    × Looks (g.L.SiteLock.view l.fn.pass) (g.L.SiteLock.view l.pass)
    × PastGoesOn (g.L.SiteLock.view l.fn.pass) (g.L.SiteLock.view l.pass)
    × (length l.out.recs ≡ start (g.L.SiteLock.calls_on l.self.lock) l.task)
    × ((rows : List (List ℕ)) × AreRecWords (g.L.SiteLock.calls_on l.self.lock) (g.L.SiteLock.view l.fn.pass).hand (g.L.SiteLock.view l.fn.pass).past (g.L.SiteLock.view l.pass).past l.task rows × (l.out ≡ record l.fn.out { recs = joined rows }))
    × GoesOn (g.L.SleepLock.spun l.fn.pass) (g.L.SleepLock.spun l.pass)
