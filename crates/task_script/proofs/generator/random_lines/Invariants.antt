use Rattle.std.proofs.Common.{◌≡◌, ◌-◌, ◌++◌}
use Rattle.task_script.specs.Generated.{random_lines}
use Rattle.task_script.proofs.generator.random_lines.Given as goal

abbrev pub invariant-loop : goal.invariant-loop
invariant-loop l = l.lines.items ++ random_lines l.task l.x (l.count - l.counter) ≡ random_lines l.task l.seed l.count
