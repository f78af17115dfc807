-- Each descriptor so far is open.
use Rattle.std.proofs.Common.{◌≡◌, ◌<◌, ℕ, IsSome}
use Rattle.lock_core.specs.Pasts.{GoesOn}
use Rattle.lock_core.specs.Shown.{PastGoesOn}
use Rattle.lock_core.specs.Locking.{Looks}
use Rattle.fd_table.specs.Tables.{FdMap, IsFdMap, stores}
use Rattle.guarded.proofs.slots.lowest_free.Given as goal

abbrev pub invariant-loop-fd : goal.invariant-loop-fd
invariant-loop-fd g l =
    g.L.SiteLock.sits l.lock l.pass
    × Looks (g.L.SiteLock.view l.fn.pass) (g.L.SiteLock.view l.pass)
    × PastGoesOn (g.L.SiteLock.view l.fn.pass) (g.L.SiteLock.view l.pass)
    × ((m : FdMap) → IsFdMap m → stores m ≡ (g.L.SiteLock.view l.fn.pass).hand.known → (k : ℕ) → k < l.fd → IsSome (m k))
    × GoesOn (g.L.SleepLock.spun l.fn.pass) (g.L.SleepLock.spun l.pass)
