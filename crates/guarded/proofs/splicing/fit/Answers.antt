use Rattle.guarded.proofs.Written.{fits-fewer, fits-more}
use Rattle.guarded.proofs.splicing.fit.Goals as goal

pub returns-then-pieces-count-clause-moved : goal.returns-then-pieces-count-clause-moved
returns-then-pieces-count-clause-moved g c =
    fits-fewer c.args.at c.args.count c.args.pieces (g.L.SiteLock.view c.args.pass.now).hand.known (g.L.SiteLock.view c.close_up.new.pass).hand.known c.if-pieces-count.true c.close_up.ensures.moved

pub returns-else-pieces-count-clause-moved : goal.returns-else-pieces-count-clause-moved
returns-else-pieces-count-clause-moved g c =
    fits-more c.args.at c.args.count c.args.pieces (g.L.SiteLock.view c.args.pass.now).hand.known (g.L.SiteLock.view c.make_room.new.pass).hand.known c.if-pieces-count.false c.make_room.ensures.moved
