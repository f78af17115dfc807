-- All words that were given are the pass's.
use Rattle.std.proofs.Common.{◌≡◌, ◌-◌}
use Rattle.lock_core.specs.Pasts.{GoesOn}
use Rattle.lock_core.specs.Shown.{PastGoesOn}
use Rattle.lock_core.specs.Locking.{Looks}
use Rattle.vma_map.specs.Searches.{AgreesWith, asked, page_of}
use Rattle.guarded.proofs.searching.find_page.Given as goal

abbrev pub invariant-loop-at : goal.invariant-loop-at
invariant-loop-at g l =
    g.L.SiteLock.sits l.lock l.pass
    × Looks (g.L.SiteLock.view l.fn.pass) (g.L.SiteLock.view l.pass)
    × PastGoesOn (g.L.SiteLock.view l.fn.pass) (g.L.SiteLock.view l.pass)
    × (page_of l.search ≡ l.page)
    × AgreesWith (g.L.SiteLock.view l.fn.pass).hand.known l.search
    × GoesOn (g.L.SleepLock.spun l.fn.pass) (g.L.SleepLock.spun l.pass)

abbrev pub decreases-loop-at : goal.decreases-loop-at
decreases-loop-at g l = 10 - asked l.search
