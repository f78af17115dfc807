use Rattle.osq_nodes.specs.OsqHandles.{fronts_in, swaps_in}
use Rattle.rwsem_slow.proofs.Showing.{writer-misses}
use Rattle.rwsem_slow.proofs.calls.RwSem.down_write_trylock.Goals as goal

pub returns-clause-missed : goal.returns-clause-missed
returns-clause-missed g c = writer-misses (fronts_in c.args.pass.now.queue) (swaps_in c.args.pass.now.queue) c.args.pass.now.tally c.args.pass.now.pass.seat.me.0.view c.write_try.new.pass.seat.me.0.view c.args.pass.now.pass.seat.me.0.past c.write_try.new.pass.seat.me.0.past c.requires.out c.write_try.ensures.on.last c.write_try.ensures.on.goes_on c.write_try.result c.write_try.ensures.missed c.write_try.ensures.shut c.write_try.ensures.found
