-- The words so far are written.
use Rattle.std.proofs.Common.{◌≡◌, length, take}
use Rattle.lock_core.specs.SiteHandles.{hand_in, view_of, KeepsPast, SaysSame, SitsAt}
use Rattle.lock_core.specs.Views.{Beside}
use Rattle.seq_fault.specs.SeqWriting.{SameCall}
use Rattle.seq_fault.proofs.writing.store.Given as goal

abbrev pub invariant-loop-at : goal.invariant-loop-at
invariant-loop-at g l =
    SitsAt l.site l.pass
    × SaysSame l.fn.pass l.pass
    × SameCall (hand_in l.fn.pass) (hand_in l.pass)
    × (length (hand_in l.pass).known ≡ length (hand_in l.fn.pass).known)
    × (take l.at (hand_in l.pass).known ≡ take l.at l.stored)
    × KeepsPast l.fn.pass l.pass
    × Beside (view_of l.fn.pass) (view_of l.pass)
