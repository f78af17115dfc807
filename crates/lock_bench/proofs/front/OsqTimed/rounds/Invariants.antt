use Rattle.std.proofs.Common.{◌≡◌, ◌+◌, Some}
use Rattle.osq_nodes.specs.declared.node.Place.TheVariants.{Out}
use Rattle.osq_nodes.specs.OsqHandles.{SitsAt, fronts_in, place_in, task_in}
use Rattle.lock_bench.proofs.front.OsqTimed.rounds.Given as goal

abbrev pub invariant-loop : goal.invariant-loop
invariant-loop g l = SitsAt l.self l.worker × (place_in l.worker ≡ Out) × (task_in l.worker ≡ Some l.task) × (fronts_in l.worker ≡ fronts_in l.fn.worker + l.counter)
