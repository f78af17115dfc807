use Rattle.std.proofs.Common.{◌≡◌, Some}
use Rattle.osq_nodes.specs.declared.node.Place.TheVariants.{Waiting}
use Rattle.osq_nodes.specs.OsqHandles.{SitsAt, place_in, task_in}
use Rattle.lock_tests.proofs.queue_tests.pass_on.Given as goal

abbrev pub invariant-loop : goal.invariant-loop
invariant-loop g l = SitsAt l.osq l.pass × (place_in l.pass ≡ Waiting) × (task_in l.pass ≡ Some l.task)
