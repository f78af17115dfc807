-- The calls on the object in front of the number are counted.
use Rattle.std.proofs.Common.{length, ◌-◌, ◌≡◌, ◌≤◌}
use Rattle.mm_report.specs.Cursors.{calls_before}
use Rattle.mm_report.proofs.task_calls.TaskCalls.count_on.Given as goal

abbrev pub invariant-loop-number : goal.invariant-loop-number
invariant-loop-number l = record {
  within : l.number ≤ length l.self.lines.now;
  counted : l.count ≡ calls_before l.object l.self.lines.now l.number;
}

abbrev pub decreases-loop-number : goal.decreases-loop-number
decreases-loop-number l = length l.self.lines.now - l.number
