-- The areas so far are read.
use Rattle.std.proofs.Common.{◌≡◌, take, drop}
use Rattle.vma_map.proofs.remapping.areas_at.Given as goal

abbrev pub invariant-loop-i : goal.invariant-loop-i
invariant-loop-i g l =
    g.S.AreaStore.has l.place l.hand
    × g.S.AreaStore.keeps l.place l.fn.hand l.hand
    × (g.S.AreaStore.areas l.place l.hand ≡ g.S.AreaStore.areas l.place l.fn.hand)
    × (l.areas.items ≡ take l.i (drop l.at (g.S.AreaStore.areas l.place l.fn.hand)))
