use Rattle.osq_nodes.specs.OsqHandles.{fronts_in, swaps_in}
use Rattle.lock_core.proofs.Within.{misses-fronts}
use Rattle.mutex_slow.specs.MutexPlaces.{seen_of}
use Rattle.mutex_slow.proofs.calls.Mutex.trylock.Goals as goal

pub returns-in-Err-clause-missed : goal.returns-in-Err-clause-missed
returns-in-Err-clause-missed g c = λ reads. misses-fronts (seen_of c.args.pass.now.pass) (seen_of c.try_outside.new.pass) (fronts_in c.args.pass.now.queue) (swaps_in c.args.pass.now.queue) c.args.pass.now.tally (c.in-Err.ensures.missed reads)
