use Rattle.std.proofs.Common.{◌≡◌, take, map}
use Rattle.word_bits.specs.EntryWord.{entry_word}
use Rattle.lock_core.specs.Pasts.{GoesOn}
use Rattle.lock_core.specs.Shown.{PastGoesOn}
use Rattle.lock_core.specs.Locking.{Looks}
use Rattle.guarded.proofs.guarded.Guarded.copy_log.Given as goal

abbrev pub invariant-loop-at : goal.invariant-loop-at
invariant-loop-at g l =
    g.L.SiteLock.sits l.self.lock l.pass
    × Looks (g.L.SiteLock.view l.fn.pass) (g.L.SiteLock.view l.pass)
    × PastGoesOn (g.L.SiteLock.view l.fn.pass) (g.L.SiteLock.view l.pass)
    × (l.out ≡ record l.fn.out { log = map entry_word (take l.at (g.L.SiteLock.view l.fn.pass).hand.log) })
    × GoesOn (g.L.SleepLock.spun l.fn.pass) (g.L.SleepLock.spun l.pass)
