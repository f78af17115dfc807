use Rattle.std.proofs.Common.{◌-◌, length}
use Rattle.lock_words.proofs.input.read_all.Given as goal

abbrev pub decreases-loop-piece : goal.decreases-loop-piece
decreases-loop-piece g l = 268435456 - length l.all.items
