use Rattle.std.proofs.Common.{◌≡◌, ◌+◌, vec_len}
use Rattle.kept_words.proofs.opening.cpus.Given as goal

abbrev pub invariant-loop-task : goal.invariant-loop-task
invariant-loop-task g l = vec_len l.all + 1 ≡ l.task
