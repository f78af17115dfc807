use Rattle.step_tests.specs.SeqStanding.{IsReady}
use Rattle.step_tests.proofs.faults_tests.all_calls.Given as goal

abbrev pub invariant-loop-call : goal.invariant-loop-call
invariant-loop-call g l = IsReady l.site l.pass
