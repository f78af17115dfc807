-- The pages of the areas so far are counted.
use Rattle.std.proofs.Common.{◌≡◌, take}
use Rattle.lock_core.specs.Pasts.{GoesOn}
use Rattle.lock_core.specs.Shown.{PastGoesOn}
use Rattle.lock_core.specs.Locking.{Looks}
use Rattle.guarded.specs.Splicing.{areas_in}
use Rattle.guarded.proofs.Counting.{shares}
use Rattle.guarded.proofs.searching.count_readable.Given as goal

abbrev pub invariant-loop-at : goal.invariant-loop-at
invariant-loop-at g l =
    g.L.SiteLock.sits l.lock l.pass
    × Looks (g.L.SiteLock.view l.fn.pass) (g.L.SiteLock.view l.pass)
    × PastGoesOn (g.L.SiteLock.view l.fn.pass) (g.L.SiteLock.view l.pass)
    × (l.pages ≡ shares (take l.at (areas_in (g.L.SiteLock.view l.fn.pass).hand.known)) l.start l.end)
    × GoesOn (g.L.SleepLock.spun l.fn.pass) (g.L.SleepLock.spun l.pass)
