use Rattle.std.proofs.Common.{◌≡◌, length, take}
use Rattle.lock_core.specs.declared.view.Held.TheVariants.{Alone}
use Rattle.percpu_rwsem.specs.PercpuHandles.{hand_in, held_in, seen_in, view_of, SitsAt}
use Rattle.step_tests.proofs.percpu_calls.store.Given as goal

abbrev pub invariant-loop-at : goal.invariant-loop-at
invariant-loop-at g l =
    SitsAt l.lock l.pass
    × (held_in l.pass ≡ Alone)
    × ((hand_in l.pass).task ≡ (hand_in l.fn.pass).task)
    × ((hand_in l.pass).done ≡ (hand_in l.fn.pass).done)
    × ((hand_in l.pass).log ≡ (hand_in l.fn.pass).log)
    × ((hand_in l.pass).sent ≡ (hand_in l.fn.pass).sent)
    × ((hand_in l.pass).consumed ≡ (hand_in l.fn.pass).consumed)
    × (seen_in l.pass ≡ seen_in l.fn.pass)
    × ((view_of l.pass).spin ≡ (view_of l.fn.pass).spin)
    × (length (hand_in l.pass).known ≡ length (hand_in l.fn.pass).known)
    × (take l.at (hand_in l.pass).known ≡ take l.at l.stored)
