use Rattle.std.proofs.Common.{◌≡◌, All, length}
use Rattle.lock_tests.specs.OsqStanding.{IsIdle}
use Rattle.lock_tests.proofs.leave_tests.members_of.Given as goal

abbrev pub invariant-loop-task : goal.invariant-loop-task
invariant-loop-task g l =
    IsIdle l.osq l.first
    × All (λ m. IsIdle l.osq m.0) l.members.items
    × (length l.members.items ≡ l.task)
