use Rattle.std.proofs.Common.{◌≡◌}
use Rattle.seq_fault.specs.SeqHandles.{SitsAt, SaysSame, hand_in}
use Rattle.step_tests.proofs.faults_tests.logs_writes.Given as goal

abbrev pub invariant-loop-call : goal.invariant-loop-call
invariant-loop-call l =
    SitsAt l.site l.pass
    × SaysSame l.fn.pass l.pass
    × (hand_in l.pass ≡ hand_in l.fn.pass)
