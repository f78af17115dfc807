use Rattle.std.proofs.Common.{◌≡◌, length, take}
use Rattle.mutex_word.specs.OwnerHandles.{hand_in, SitsAt}
use Rattle.call_tests.specs.OwnerStanding.{SameSpin, SaysSame}
use Rattle.call_tests.proofs.owner_calls.load.Given as goal

abbrev pub invariant-loop-at : goal.invariant-loop-at
invariant-loop-at g l =
    SitsAt l.site l.pass
    × SaysSame l.fn.pass l.pass
    × ((hand_in l.pass) ≡ (hand_in l.fn.pass))
    × (length l.words ≡ 257)
    × (take l.at l.words ≡ take l.at (hand_in l.fn.pass).known)
    × SameSpin l.fn.pass l.pass
