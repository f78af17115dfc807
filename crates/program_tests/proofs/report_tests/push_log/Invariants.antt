use Rattle.std.proofs.Common.{◌≡◌, ◌++◌, take}
use Rattle.program_tests.proofs.report_tests.push_log.Given as goal

abbrev pub invariant-loop-word : goal.invariant-loop-word
invariant-loop-word l = l.snapshot ≡ record l.initial.snapshot { log = l.initial.snapshot.log ++ take l.word-index l.log }
