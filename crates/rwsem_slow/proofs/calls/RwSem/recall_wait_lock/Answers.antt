use Rattle.lock_core.proofs.Showing.{latest-shown}
use Rattle.osq_nodes.specs.OsqHandles.{fronts_in}
use Rattle.rwsem_wake.specs.RwSemPlaces.{line_of}
use Rattle.rwsem_slow.proofs.calls.RwSem.recall_wait_lock.Goals as goal

pub returns-clause-last : goal.returns-clause-last
returns-clause-last g c = let l = latest-shown line_of (fronts_in c.args.pass.now.queue) c.recall_spin_lock.new.pass.seat.me.0.view c.recall_spin_lock.new.pass.seat.me.0.past c.recall_spin_lock.ensures.on.last in record { step = l.step; hand = l.hand; spin = l.spin }
