-- The words of the pieces so far are written, and all others are as before.
use Rattle.std.proofs.Common.{◌≡◌, ℕ, ◌+◌, ◌<◌, ◌≤◌, length, map, slice_index}
use Rattle.word_bits.specs.AreaWord.{area_word}
use Rattle.lock_core.specs.Pasts.{GoesOn}
use Rattle.guarded.specs.Splicing.{ChangesWords}
use Rattle.guarded.proofs.splicing.write_pieces.Given as goal

abbrev pub invariant-loop-i : goal.invariant-loop-i
invariant-loop-i g l =
    g.L.SiteLock.sits l.lock l.pass
    × ChangesWords (g.L.SiteLock.view l.fn.pass) (g.L.SiteLock.view l.pass)
    × (length (g.L.SiteLock.view l.pass).hand.known ≡ length (g.L.SiteLock.view l.fn.pass).hand.known)
    × ((i : ℕ) → i ≤ l.at → slice_index (g.L.SiteLock.view l.pass).hand.known i ≡ slice_index (g.L.SiteLock.view l.fn.pass).hand.known i)
    × ((i : ℕ) → i < l.i → slice_index (g.L.SiteLock.view l.pass).hand.known (l.at + 1 + i) ≡ slice_index (map area_word l.pieces) i)
    × (l.i ≤ length l.pieces)
    × ((i : ℕ) → l.at + l.i < i → slice_index (g.L.SiteLock.view l.pass).hand.known i ≡ slice_index (g.L.SiteLock.view l.fn.pass).hand.known i)
    × GoesOn (g.L.SleepLock.spun l.fn.pass) (g.L.SleepLock.spun l.pass)
