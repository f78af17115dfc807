use Rattle.rwsem_slow.proofs.ReaderSteps.{settle-may, settle-shares}
use Rattle.rwsem_slow.proofs.reader.queue.settle.Goals as goal

pub settle-requires-clause-may : goal.settle-requires-clause-may
settle-requires-clause-may g c = settle-may c.args.pass.now.seat.me.0.view c.first.new.pass.seat.me.0.view c.requires.transit c.in-None.ensures.told

pub returns-then-settle-clause-goes_on : goal.returns-then-settle-clause-goes_on
returns-then-settle-clause-goes_on g c = λ p t. c.settle.ensures.on.goes_on p (c.first.ensures.on.goes_on p t)

pub returns-then-settle-clause-took : goal.returns-then-settle-clause-took
returns-then-settle-clause-took g c = let told = c.settle.ensures.took c.if-settle.true in settle-shares c.args.pass.now.seat.me.0.view c.first.new.pass.seat.me.0.view c.requires.transit c.in-None.ensures.told g.O.Object.object c.args.site.now.table.shared.key c.settle.new.pass.seat.me.0.view told.0 c.first.ensures.later told.2 told.3

pub returns-clause-goes_on : goal.returns-clause-goes_on
returns-clause-goes_on g c = λ p t. c.settle.ensures.on.goes_on p (c.first.ensures.on.goes_on p t)
