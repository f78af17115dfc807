use Rattle.program_tests.proofs.Filled.{AreFilled}
use Rattle.program_tests.proofs.report_tests.filled.Given as goal

abbrev pub invariant-loop-object : goal.invariant-loop-object
invariant-loop-object g l = AreFilled l.script l.object 0 l.script.objects l.results
