use Rattle.std.proofs.Common.{◌≡◌, Some}
use Rattle.osq_nodes.specs.declared.node.Place.TheVariants.{Out}
use Rattle.osq_nodes.specs.OsqHandles.{SitsAt, place_in, task_in}
use Rattle.lock_tests.proofs.leave_tests.rounds.Given as goal

abbrev pub invariant-loop : goal.invariant-loop
invariant-loop g l = SitsAt l.osq l.pass × (place_in l.pass ≡ Out) × (task_in l.pass ≡ Some l.task)
