use Rattle.osq_nodes.specs.OsqHandles.{fronts_in, swaps_in}
use Rattle.rwsem_slow.proofs.Showing.{reader-misses}
use Rattle.rwsem_slow.proofs.calls.RwSem.down_read_trylock.Goals as goal

pub returns-clause-missed : goal.returns-clause-missed
returns-clause-missed g c = reader-misses (fronts_in c.args.pass.now.queue) (swaps_in c.args.pass.now.queue) c.args.pass.now.tally c.args.pass.now.pass.seat.me.0.view c.read_try.new.pass.seat.me.0.view c.args.pass.now.pass.seat.me.0.past c.read_try.new.pass.seat.me.0.past c.requires.out c.read_try.ensures.on.last c.read_try.ensures.on.goes_on c.read_try.result c.read_try.ensures.missed c.read_try.ensures.shut c.read_try.ensures.lawful c.read_try.ensures.found
