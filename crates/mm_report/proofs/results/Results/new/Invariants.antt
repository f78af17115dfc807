use Rattle.std.proofs.Common.{◌≡◌, ◌++◌, drop}
use Rattle.mm_report.specs.Results.{empty_from, empty_results}
use Rattle.mm_report.proofs.results.Results.new.Given as goal

abbrev pub invariant-loop-object : goal.invariant-loop-object
invariant-loop-object l = l.snapshots.items ++ empty_from l.script l.object (drop l.object l.script.objects) ≡ empty_results l.script
