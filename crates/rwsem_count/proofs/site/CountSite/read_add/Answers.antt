use Rattle.std.proofs.Common.{sym, ◌∙◌}
use Rattle.rwsem_count.proofs.Showing.{transit-misses}
use Rattle.rwsem_count.proofs.site.CountSite.read_add.Goals as goal

pub returns-clause-misses : goal.returns-clause-misses
returns-clause-misses g c = transit-misses c.args.pass.now.pass.seat.me.0.view c.read_add-added.new.pass.seat.me.0.view c.args.pass.now.pass.seat.me.0.past c.read_add-added.new.pass.seat.me.0.past (sym c.requires.own.seat.held ∙ c.requires.out) c.read_add-added.ensures.on.last c.read_add-added.ensures.on.goes_on c.read_add-added.result c.read_add-added.ensures.transit c.read_add-added.ensures.left
