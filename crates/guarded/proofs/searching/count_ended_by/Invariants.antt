-- The areas in front of the least number have ended, and those from the greatest on haven't.
use Rattle.std.proofs.Common.{◌-◌, ◌<◌, ◌≤◌, drop, take, length}
use Rattle.std.specs.List.{AllByRecursion}
use Rattle.lock_core.specs.Pasts.{GoesOn}
use Rattle.lock_core.specs.Shown.{PastGoesOn}
use Rattle.lock_core.specs.Locking.{Looks}
use Rattle.vma_map.specs.Bisections.{least, most}
use Rattle.guarded.specs.Splicing.{areas_in}
use Rattle.guarded.proofs.searching.count_ended_by.Given as goal

abbrev pub invariant-loop-middle : goal.invariant-loop-middle
invariant-loop-middle g l =
    g.L.SiteLock.sits l.lock l.pass
    × Looks (g.L.SiteLock.view l.fn.pass) (g.L.SiteLock.view l.pass)
    × PastGoesOn (g.L.SiteLock.view l.fn.pass) (g.L.SiteLock.view l.pass)
    × (most l.ended ≤ length (areas_in (g.L.SiteLock.view l.fn.pass).hand.known))
    × AllByRecursion (λ a. a.end ≤ l.page) (take (least l.ended) (areas_in (g.L.SiteLock.view l.fn.pass).hand.known))
    × AllByRecursion (λ a. l.page < a.end) (drop (most l.ended) (areas_in (g.L.SiteLock.view l.fn.pass).hand.known))
    × GoesOn (g.L.SleepLock.spun l.fn.pass) (g.L.SleepLock.spun l.pass)

abbrev pub decreases-loop-middle : goal.decreases-loop-middle
decreases-loop-middle g l = most l.ended - least l.ended
