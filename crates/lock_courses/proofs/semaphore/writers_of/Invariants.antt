use Rattle.std.proofs.Common.{◌≤◌, length}
use Rattle.lock_courses.proofs.semaphore.writers_of.Given as goal

abbrev pub invariant-loop-waiter : goal.invariant-loop-waiter
invariant-loop-waiter l = length l.rest.items ≤ l.waiter-index
