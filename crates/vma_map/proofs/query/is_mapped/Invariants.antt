-- The range is mapped up to the next page.
use Rattle.std.proofs.Common.{◌≡◌, take}
use Rattle.vma_map.proofs.QueryLemmas.{IsMappedTo}
use Rattle.vma_map.proofs.query.is_mapped.Given as goal

abbrev pub invariant-loop-at : goal.invariant-loop-at
invariant-loop-at g l =
    g.S.AreaStore.has l.place l.hand
    × g.S.AreaStore.keeps l.place l.fn.hand l.hand
    × (g.S.AreaStore.areas l.place l.hand ≡ g.S.AreaStore.areas l.place l.fn.hand)
    × IsMappedTo (g.S.AreaStore.areas l.place l.fn.hand) (take l.at (g.S.AreaStore.areas l.place l.fn.hand)) l.start l.next
