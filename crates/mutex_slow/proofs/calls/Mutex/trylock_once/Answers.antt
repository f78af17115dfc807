use Rattle.std.proofs.Common.{refl, ap, inl, arith}
use Rattle.lock_core.specs.Kinds.{mutex}
use Rattle.lock_core.specs.Shown.{shown}
use Rattle.lock_core.proofs.Showing.{missed-misses}
use Rattle.lock_core.proofs.Within.{misses-fronts}
use Rattle.osq_nodes.specs.OsqHandles.{fronts_in, swaps_in}
use Rattle.mutex_slow.specs.Mutexes.{owner_at}
use Rattle.mutex_slow.specs.MutexPlaces.{line_of}
use Rattle.mutex_slow.specs.Mutexes.{V}
use Rattle.mutex_slow.proofs.Opening.{takes-open}
use Rattle.mutex_slow.proofs.calls.Mutex.trylock_once.Goals as goal

pub returns-in-Err-clause-missed : goal.returns-in-Err-clause-missed
returns-in-Err-clause-missed g c = let f = fronts_in c.args.pass.now.queue in let v : V = c.args.pass.now.pass.seat.me.0.view in let u : V = c.take_free.new.pass.seat.me.0.view in let p = c.args.pass.now.pass.seat.me.0.past in let q = c.take_free.new.pass.seat.me.0.past in
    λ reads shut. misses-fronts (shown line_of f v p) (shown line_of f u q) f (swaps_in c.args.pass.now.queue) c.args.pass.now.tally
    (missed-misses line_of f f refl mutex reads owner_at c.in-Err.word v u p q c.in-Err.ensures.missed.1 c.take_free.ensures.on.last c.in-Err.ensures.found c.take_free.ensures.on.goes_on shut c.requires.out)

pub returns-in-Ok-clause-opened : goal.returns-in-Ok-clause-opened
returns-in-Ok-clause-opened g c = let v : V = c.args.pass.now.pass.seat.me.0.view in let is = c.in-Ok.ensures.took.3 in let steps = ap (λ (w : V). w.steps) is in
    takes-open v c.take_free.new.pass.seat.me.0.view c.args.pass.now.pass.seat.me.0.past c.take_free.new.pass.seat.me.0.past v.hand.task refl (ap (λ (w : V). w.hand.task) is) (ap (λ (w : V). w.hand.held) is) (omega (arith, steps)) c.take_free.ensures.on.last c.take_free.ensures.on.goes_on (0, c.in-Ok.ensures.free, inl (omega arith))
