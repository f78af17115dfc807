-- The words so far are those that the pass knows.
use Rattle.std.proofs.Common.{◌≡◌, length, take}
use Rattle.lock_core.specs.SiteHandles.{hand_in, view_of, KeepsPast, SaysSame, SitsAt}
use Rattle.lock_core.specs.Views.{Beside}
use Rattle.seq_fault.proofs.writing.load.Given as goal

abbrev pub invariant-loop-at : goal.invariant-loop-at
invariant-loop-at g l =
    SitsAt l.site l.pass
    × SaysSame l.fn.pass l.pass
    × ((hand_in l.pass) ≡ (hand_in l.fn.pass))
    × (length l.words ≡ 257)
    × (take l.at l.words ≡ take l.at (hand_in l.fn.pass).known)
    × KeepsPast l.fn.pass l.pass
    × Beside (view_of l.fn.pass) (view_of l.pass)
