-- The calls of the tasks so far are counted.
use Rattle.std.proofs.Common.{◌≡◌, take}
use Rattle.std.specs.Prelude.{count_by, sum_by}
use Rattle.task_script.specs.Scripts.{is_on}
use Rattle.program_tests.proofs.report_tests.count_calls.Given as goal

abbrev pub invariant-loop-task : goal.invariant-loop-task
invariant-loop-task g l = l.count ≡ sum_by (count_by (is_on l.object)) (take l.task l.script.tasks)
