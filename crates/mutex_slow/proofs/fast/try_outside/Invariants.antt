use Rattle.std.proofs.Common.{true, false}
use Rattle.mutex_slow.proofs.fast.try_outside.Given as goal

abbrev pub ghosts-attempt : goal.ghosts-attempt
ghosts-attempt g a = record { asks = false; counts = true }
