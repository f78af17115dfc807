use Rattle.std.proofs.Common.{◌≡◌, ◌+◌, ◌*◌, ◌≤◌, ◌++◌, length, take}
use Rattle.lock_words.specs.States.{tasks_text}
use Rattle.lock_words.proofs.states.add_tasks.Given as goal

abbrev pub invariant-loop-task : goal.invariant-loop-task
invariant-loop-task l = record {
  text : l.out ≡ l.fn.out ++ tasks_text (take l.task-index l.tasks);
  short : length l.out ≤ length l.fn.out + 21 * l.task-index;
}
