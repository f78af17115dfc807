use Rattle.lock_core.specs.Kinds.{semaphore, wakes_shared}
use Rattle.rwsem_wake.specs.RwSemPlaces.{seen_of}
use Rattle.rwsem_slow.specs.RwSemHandles.{shown_of, wakes_in}
use Rattle.rwsem_slow.specs.Types.{No, Any}
use Rattle.rwsem_slow.proofs.Woken.{wakes-counting}
use Rattle.rwsem_slow.proofs.calls.RwSem.up_read.Goals as goal

pub returns-clause-woken : goal.returns-clause-woken
returns-clause-woken g c = let v = shown_of c.args.pass.now in
    wakes-counting (wakes_shared semaphore) No Any (wakes_in c.args.pass.now) c.up_read.new.counts.wakes (seen_of c.args.pass.now.pass) (seen_of c.up_read.new.pass) v.fronts v.fronts v.swaps v.swaps v.tally v.tally c.up_read.ensures.woken
