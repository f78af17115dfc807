use Rattle.std.proofs.Common.{◌≡◌, map}
use Rattle.std.specs.List.{range_with_len}
use Rattle.task_script.specs.Generated.{random_task}
use Rattle.task_script.proofs.generator.generate.Given as goal

abbrev pub invariant-loop-task : goal.invariant-loop-task
invariant-loop-task l = map (λ v. v.items) l.tasks.items ≡ map (random_task l.number) (range_with_len 0 l.task)
