-- One more task's calls are counted, and at the end those of all are.
use Rattle.std.proofs.Common.{◌∙◌, ap, arith}
use Rattle.std.specs.Prelude.{count_by, sum_by}
use Rattle.std.proofs.lemmas.List.{get_or-replicate, take_all}
use Rattle.task_script.specs.Scripts.{is_on}
use Rattle.task_script.proofs.Mapped.{at_place}
use Rattle.mm_report.proofs.Reserved.{more_sum}
use Rattle.mm_report.proofs.results.count_calls.Goals as goal

pub loop-task-init : goal.loop-task-init
loop-task-init c = λ object below. get_or-replicate 32 object 0 0 below

pub loop-task-preserved : goal.loop-task-preserved
loop-task-preserved c = λ object below.
    let tasks = c.args.script.now.tasks in
    let lines = at_place tasks c.loop-task.task (omega (arith, c.tasks-task-end.ensures.count)) in
    let more = more_sum (count_by (is_on object)) tasks c.loop-task.task lines.0 lines.1 in
    let before = c.loop-task.invariant object below in
    let counted = c.in_ok-count_task.ensures.counted lines.0 lines.1 object below in
    omega arith

pub returns : goal.returns
returns c = λ object below.
    c.loop-task.invariant object below ∙ ap (sum_by (count_by (is_on object))) (take_all c.loop-task.task c.args.script.now.tasks (omega (arith, c.tasks-task-end.ensures.count)))
