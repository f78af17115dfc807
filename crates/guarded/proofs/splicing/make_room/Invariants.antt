-- The words behind the place are moved, and those up to it are as before.
use Rattle.std.proofs.Common.{◌≡◌, ℕ, ◌+◌, ◌-◌, ◌<◌, ◌≤◌, length, slice_index}
use Rattle.lock_core.specs.Pasts.{GoesOn}
use Rattle.guarded.specs.Splicing.{ChangesWords}
use Rattle.guarded.proofs.splicing.make_room.Given as goal

abbrev pub invariant-loop-place : goal.invariant-loop-place
invariant-loop-place g l =
    g.L.SiteLock.sits l.lock l.pass
    × ChangesWords (g.L.SiteLock.view l.fn.pass) (g.L.SiteLock.view l.pass)
    × (length (g.L.SiteLock.view l.pass).hand.known ≡ length (g.L.SiteLock.view l.fn.pass).hand.known)
    × (l.at ≤ l.place)
    × (l.place ≤ l.len)
    × ((i : ℕ) → i ≤ l.place → slice_index (g.L.SiteLock.view l.pass).hand.known i ≡ slice_index (g.L.SiteLock.view l.fn.pass).hand.known i)
    × ((i : ℕ) → l.place + l.more < i → slice_index (g.L.SiteLock.view l.pass).hand.known i ≡ slice_index (g.L.SiteLock.view l.fn.pass).hand.known (i - l.more))
    × GoesOn (g.L.SleepLock.spun l.fn.pass) (g.L.SleepLock.spun l.pass)

abbrev pub decreases-loop-place : goal.decreases-loop-place
decreases-loop-place g l = l.place
