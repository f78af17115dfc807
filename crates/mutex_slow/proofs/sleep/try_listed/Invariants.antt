use Rattle.std.proofs.Common.{false}
use Rattle.mutex_slow.proofs.sleep.try_listed.Given as goal

abbrev pub ghosts-attempt : goal.ghosts-attempt
ghosts-attempt g a = record { asks = a.asks; counts = false }
