-- No free range begins below the end of the last area.
use Rattle.std.proofs.Common.{◌≡◌, take}
use Rattle.vma_map.proofs.QueryLemmas.{HasNoGap}
use Rattle.vma_map.proofs.query.lowest_free.Given as goal

abbrev pub invariant-loop-at : goal.invariant-loop-at
invariant-loop-at g l =
    g.S.AreaStore.has l.place l.hand
    × g.S.AreaStore.keeps l.place l.fn.hand l.hand
    × (g.S.AreaStore.areas l.place l.hand ≡ g.S.AreaStore.areas l.place l.fn.hand)
    × HasNoGap (g.S.AreaStore.areas l.place l.fn.hand) (take l.at (g.S.AreaStore.areas l.place l.fn.hand)) l.len l.start
