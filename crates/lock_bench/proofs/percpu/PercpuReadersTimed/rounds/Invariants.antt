use Rattle.std.proofs.Common.{◌≡◌, ◌+◌}
use Rattle.percpu_rwsem.specs.PercpuHandles.{hand_in}
use Rattle.lock_bench.specs.BenchPercpuPasses.{IsBetween}
use Rattle.lock_bench.proofs.percpu.PercpuReadersTimed.rounds.Given as goal

abbrev pub invariant-loop : goal.invariant-loop
invariant-loop g l = IsBetween l.self.sem l.worker.pass × ((hand_in l.worker.pass).takes ≡ (hand_in l.fn.worker.pass).takes + l.counter)
