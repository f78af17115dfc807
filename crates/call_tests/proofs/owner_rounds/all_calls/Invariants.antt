use Rattle.std.proofs.Common.{◌≡◌, false, Some}
use Rattle.lock_core.specs.declared.view.Held.TheVariants.{No}
use Rattle.lock_core.specs.Views.{SpinRests}
use Rattle.mutex_word.specs.OwnerHandles.{hand_in, held_in, task_in, view_of, SitsAt}
use Rattle.call_tests.specs.OwnerStanding.{OwesNothing}
use Rattle.call_tests.proofs.owner_rounds.all_calls.Given as goal

abbrev pub invariant-loop : goal.invariant-loop
invariant-loop g l =
    SitsAt l.site l.pass
    × (task_in l.pass ≡ Some l.task)
    × (held_in l.pass ≡ No)
    × ((hand_in l.pass).writes ≡ false)
    × SpinRests (view_of l.pass).spin
    × OwesNothing l.pass
