use Rattle.std.proofs.Common.{◌≤◌}
use Rattle.lock_bench.specs.FaultPasses.{IsAtCall}
use Rattle.lock_bench.proofs.seq_faults.SeqSpaceTimed.rounds.Given as goal

abbrev pub invariant-loop-call : goal.invariant-loop-call
invariant-loop-call g l = IsAtCall l.self l.task l.call l.worker × (l.call ≤ l.count)
