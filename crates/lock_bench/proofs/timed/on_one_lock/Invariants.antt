use Rattle.std.proofs.Common.{◌≡◌, ◌<◌, ℕ, length, All}
use Rattle.crossbeam_utils.specs.Padded.{padded_value}
use Rattle.lock_bench.proofs.timed.on_one_lock.Given as goal

abbrev pub invariant-loop-task : goal.invariant-loop-task
invariant-loop-task g l = g.L.Timed.idle l.lock l.first × All (λ w. g.L.Timed.idle l.lock (padded_value w)) l.workers.items × (length l.workers.items ≡ l.task) × ((t : ℕ) → t < l.threads → g.L.Timed.serves l.lock t l.count)
