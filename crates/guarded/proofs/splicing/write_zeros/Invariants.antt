-- The words in front of the place are 0, and those from it on are as before.
use Rattle.std.proofs.Common.{◌≡◌, ℕ, ◌+◌, ◌<◌, ◌≤◌, length, slice_index}
use Rattle.lock_core.specs.Pasts.{GoesOn}
use Rattle.guarded.specs.Splicing.{ChangesWords}
use Rattle.guarded.proofs.splicing.write_zeros.Given as goal

abbrev pub invariant-loop-place : goal.invariant-loop-place
invariant-loop-place g l =
    g.L.SiteLock.sits l.lock l.pass
    × ChangesWords (g.L.SiteLock.view l.fn.pass) (g.L.SiteLock.view l.pass)
    × (length (g.L.SiteLock.view l.pass).hand.known ≡ length (g.L.SiteLock.view l.fn.pass).hand.known)
    × (l.at + 1 ≤ l.place)
    × (l.place ≤ l.len + 1)
    × ((i : ℕ) → i ≤ l.at → slice_index (g.L.SiteLock.view l.pass).hand.known i ≡ slice_index (g.L.SiteLock.view l.fn.pass).hand.known i)
    × ((i : ℕ) → l.at < i → i < l.place → slice_index (g.L.SiteLock.view l.pass).hand.known i ≡ 0)
    × ((i : ℕ) → l.place ≤ i → slice_index (g.L.SiteLock.view l.pass).hand.known i ≡ slice_index (g.L.SiteLock.view l.fn.pass).hand.known i)
    × GoesOn (g.L.SleepLock.spun l.fn.pass) (g.L.SleepLock.spun l.pass)
