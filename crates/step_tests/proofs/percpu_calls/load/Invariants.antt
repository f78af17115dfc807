use Rattle.std.proofs.Common.{◌≡◌, length, take}
use Rattle.percpu_rwsem.specs.PercpuHandles.{hand_in, held_in, seen_in, view_of, SitsAt}
use Rattle.step_tests.proofs.percpu_calls.load.Given as goal

abbrev pub invariant-loop-at : goal.invariant-loop-at
invariant-loop-at g l =
    SitsAt l.lock l.pass
    × (held_in l.pass ≡ held_in l.fn.pass)
    × (hand_in l.pass ≡ hand_in l.fn.pass)
    × (seen_in l.pass ≡ seen_in l.fn.pass)
    × ((view_of l.pass).spin ≡ (view_of l.fn.pass).spin)
    × (length l.words ≡ 257)
    × (take l.at l.words ≡ take l.at (hand_in l.fn.pass).known)
