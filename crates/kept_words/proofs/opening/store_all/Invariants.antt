use Rattle.std.proofs.Common.{◌≡◌, length, take}
use Rattle.kept_words.specs.Keeping.{OnlyWrites}
use Rattle.kept_words.specs.Types.{Alone}
use Rattle.kept_words.proofs.opening.store_all.Given as goal

abbrev pub invariant-loop-at : goal.invariant-loop-at
invariant-loop-at g l =
    g.L.SiteLock.sits l.lock l.pass
    × ((g.L.SiteLock.view l.pass).hand.held ≡ Alone)
    × OnlyWrites (g.L.SiteLock.view l.fn.pass).hand (g.L.SiteLock.view l.pass).hand
    × (length (g.L.SiteLock.view l.pass).hand.known ≡ length (g.L.SiteLock.view l.fn.pass).hand.known)
    × (take l.at (g.L.SiteLock.view l.pass).hand.known ≡ take l.at l.words)
