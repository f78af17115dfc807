use Rattle.std.proofs.Common.{◌≡◌, ◌++◌, take}
use Rattle.program_tests.proofs.report_tests.push_recs.Given as goal

abbrev pub invariant-loop-word : goal.invariant-loop-word
invariant-loop-word l = l.snapshot ≡ record l.initial.snapshot { recs = l.initial.snapshot.recs ++ take l.word-index l.recs }
