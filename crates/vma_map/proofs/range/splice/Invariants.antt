-- The pieces so far stand behind the front.
use Rattle.std.proofs.Common.{◌≡◌, ◌++◌, take, drop}
use Rattle.vma_map.proofs.range.splice.Given as goal

abbrev pub invariant-loop-i : goal.invariant-loop-i
invariant-loop-i l =
    l.areas.items ≡ take l.place l.initial.areas.items ++ (take l.i l.more ++ drop l.place l.initial.areas.items)
