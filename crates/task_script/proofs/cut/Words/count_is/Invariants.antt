use Rattle.std.proofs.Common.{◌≡◌, ◌+◌, length}
use Rattle.task_script.proofs.cut.Words.count_is.Given as goal

abbrev pub invariant-loop-taken : goal.invariant-loop-taken
invariant-loop-taken l = length l.left + l.taken ≡ length l.self
