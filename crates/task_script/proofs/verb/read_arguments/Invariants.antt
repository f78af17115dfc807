use Rattle.std.proofs.Common.{◌≡◌, ◌+◌, drop, length}
use Rattle.task_script.specs.Verbs.{no_values, with_arguments}
use Rattle.task_script.proofs.verb.read_arguments.Given as goal

abbrev pub invariant-loop-argument : goal.invariant-loop-argument
invariant-loop-argument l = record {
  left : l.left + l.argument-index ≡ length l.arguments;
  taken : length l.words + l.argument-index ≡ length l.fn.words;
  read : with_arguments l.version (drop l.argument-index l.arguments) l.words l.values ≡ with_arguments l.version l.arguments l.fn.words no_values;
}
