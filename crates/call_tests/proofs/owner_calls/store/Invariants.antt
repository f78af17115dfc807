use Rattle.std.proofs.Common.{◌≡◌, length, take}
use Rattle.mutex_word.specs.OwnerHandles.{hand_in, SitsAt}
use Rattle.call_tests.specs.OwnerStanding.{OwesSame, SameSpin, SaysSame}
use Rattle.call_tests.proofs.owner_calls.store.Given as goal

abbrev pub invariant-loop-at : goal.invariant-loop-at
invariant-loop-at g l =
    SitsAt l.site l.pass
    × SaysSame l.fn.pass l.pass
    × ((hand_in l.pass).log ≡ (hand_in l.fn.pass).log)
    × (length (hand_in l.pass).known ≡ length (hand_in l.fn.pass).known)
    × (take l.at (hand_in l.pass).known ≡ take l.at l.stored)
    × SameSpin l.fn.pass l.pass
    × OwesSame l.fn.pass l.pass
