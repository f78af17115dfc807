use Rattle.std.proofs.Common.{◌≡◌, ◌≤◌, ◌-◌, ◌++◌, length, drop}
use Rattle.rwsem_wake.proofs.Batching.{first_readers}
use Rattle.rwsem_wake.proofs.batches.batch.Given as goal

abbrev pub invariant-loop-waiter : goal.invariant-loop-waiter
invariant-loop-waiter l = (length l.out.items ≤ l.limit) × (l.out.items ++ first_readers (l.limit - length l.out.items) (drop l.waiter-index l.list) ≡ first_readers l.limit l.list)
