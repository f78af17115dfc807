use Rattle.std.proofs.Common.{◌≡◌}
use Rattle.lock_core.specs.declared.view.Held.TheVariants.{No}
use Rattle.mutex_word.specs.OwnerHandles.{hand_in, held_in, task_in, SitsAt}
use Rattle.call_tests.specs.OwnerStanding.{OwesSame, SameSpin}
use Rattle.call_tests.proofs.owner_calls.take.Given as goal

abbrev pub invariant-loop : goal.invariant-loop
invariant-loop g l =
    SitsAt l.site l.pass
    × (held_in l.pass ≡ No)
    × (task_in l.pass ≡ task_in l.fn.pass)
    × ((hand_in l.pass).writes ≡ (hand_in l.fn.pass).writes)
    × SameSpin l.fn.pass l.pass
    × OwesSame l.fn.pass l.pass
