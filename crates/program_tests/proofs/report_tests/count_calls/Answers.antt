-- One more task's calls are counted, and at the end those of all are.
use Rattle.std.proofs.Common.{◌∙◌, ap, arith}
use Rattle.std.specs.Prelude.{count_by, sum_by}
use Rattle.std.proofs.lemmas.List.{take_all}
use Rattle.task_script.specs.Scripts.{is_on}
use Rattle.mm_report.proofs.Reserved.{more_sum}
use Rattle.program_tests.proofs.report_tests.count_calls.Goals as goal

pub loop-task-preserved : goal.loop-task-preserved
loop-task-preserved g c =
    let tasks = c.args.script.now.tasks in
    let more = more_sum (count_by (is_on c.args.object)) tasks c.loop-task.task c.calls.result.now c.calls.ensures.calls in
    let before = c.loop-task.invariant in
    let counted = c.count_on-calls.ensures in
    omega (arith, more, before, counted)

pub returns : goal.returns
returns g c =
    c.loop-task.invariant ∙ ap (sum_by (count_by (is_on c.args.object))) (take_all c.loop-task.task c.args.script.now.tasks (omega (arith, c.tasks-task-end.ensures.count)))
