-- The areas in front of the least number have ended, and those from the greatest on haven't.
use Rattle.std.proofs.Common.{◌-◌, ◌≡◌, ◌<◌, ◌≤◌, drop, take, length}
use Rattle.std.specs.List.{AllByRecursion}
use Rattle.vma_map.specs.Bisections.{least, most}
use Rattle.vma_map.proofs.query.count_ended.Given as goal

abbrev pub invariant-loop-middle : goal.invariant-loop-middle
invariant-loop-middle g l =
    g.S.AreaStore.has l.place l.hand
    × g.S.AreaStore.keeps l.place l.fn.hand l.hand
    × (g.S.AreaStore.areas l.place l.hand ≡ g.S.AreaStore.areas l.place l.fn.hand)
    × (most l.ended ≤ length (g.S.AreaStore.areas l.place l.fn.hand))
    × AllByRecursion (λ a. a.end < l.page) (take (least l.ended) (g.S.AreaStore.areas l.place l.fn.hand))
    × AllByRecursion (λ a. l.page ≤ a.end) (drop (most l.ended) (g.S.AreaStore.areas l.place l.fn.hand))

abbrev pub decreases-loop-middle : goal.decreases-loop-middle
decreases-loop-middle g l = most l.ended - least l.ended
