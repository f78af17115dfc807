-- The areas in front of the place have begun.
use Rattle.std.proofs.Common.{◌≡◌, ◌≤◌, take, length}
use Rattle.std.specs.List.{AllByRecursion}
use Rattle.vma_map.proofs.query.count_begun_from.Given as goal

abbrev pub invariant-loop-at : goal.invariant-loop-at
invariant-loop-at g l =
    g.S.AreaStore.has l.place l.hand
    × g.S.AreaStore.keeps l.place l.fn.hand l.hand
    × (g.S.AreaStore.areas l.place l.hand ≡ g.S.AreaStore.areas l.place l.fn.hand)
    × (l.at ≤ length (g.S.AreaStore.areas l.place l.fn.hand))
    × AllByRecursion (λ a. a.start ≤ l.page) (take l.at (g.S.AreaStore.areas l.place l.fn.hand))
