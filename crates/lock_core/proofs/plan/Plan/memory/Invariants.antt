use Rattle.std.proofs.Common.{◌≡◌, ◌++◌, drop}
use Rattle.lock_core.specs.Plans.{call_words, calls_of}
use Rattle.lock_core.specs.Stores.{new_memory}
use Rattle.lock_core.proofs.plan.Plan.memory.Given as goal

abbrev pub invariant-loop-task : goal.invariant-loop-task
invariant-loop-task l = l.words.items ++ call_words (drop l.task-index (calls_of l.task-items)) ≡ new_memory (calls_of l.task-items)
