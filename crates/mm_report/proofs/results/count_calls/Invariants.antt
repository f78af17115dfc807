-- The calls of the tasks so far are counted.
use Rattle.std.proofs.Common.{◌≡◌, ◌<◌, ℕ, get_or, take}
use Rattle.std.specs.Prelude.{count_by, sum_by}
use Rattle.task_script.specs.Scripts.{is_on}
use Rattle.mm_report.proofs.results.count_calls.Given as goal

abbrev pub invariant-loop-task : goal.invariant-loop-task
invariant-loop-task l = (object : ℕ) → object < 32 → get_or l.counts object 0 ≡ sum_by (count_by (is_on object)) (take l.task l.script.tasks)
