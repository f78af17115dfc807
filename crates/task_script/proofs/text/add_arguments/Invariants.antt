use Rattle.std.proofs.Common.{◌≡◌, ◌+◌, ◌*◌, ◌≤◌, ◌++◌, length, take}
use Rattle.task_script.specs.Texts.{arguments_text}
use Rattle.task_script.proofs.text.add_arguments.Given as goal

abbrev pub invariant-loop-argument : goal.invariant-loop-argument
invariant-loop-argument l = record {
  text : l.out ≡ l.fn.out ++ arguments_text l.values (take l.argument-index l.arguments);
  short : length l.out ≤ length l.fn.out + 21 * l.argument-index;
}
