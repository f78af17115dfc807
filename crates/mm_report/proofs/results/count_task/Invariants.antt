-- The calls so far are counted.
use Rattle.std.proofs.Common.{◌≡◌, length, take}
use Rattle.mm_report.specs.Results.{AddsCalls}
use Rattle.mm_report.proofs.results.count_task.Given as goal

abbrev pub invariant-loop-line : goal.invariant-loop-line
invariant-loop-line l = record {
  counted : AddsCalls (take l.line-index l.line-items) l.fn.counts l.counts;
  all : length l.counts ≡ 32;
}
