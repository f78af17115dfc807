use Rattle.lock_bench.proofs.timed.rounds.Given as goal

abbrev pub decreases-loop-left : goal.decreases-loop-left
decreases-loop-left g l = l.left
