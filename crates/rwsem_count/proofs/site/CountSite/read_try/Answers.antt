use Rattle.std.proofs.Common.{sym, ◌∙◌}
use Rattle.rwsem_count.proofs.Showing.{reader-misses}
use Rattle.rwsem_count.proofs.site.CountSite.read_try.Goals as goal

pub returns-clause-misses : goal.returns-clause-misses
returns-clause-misses g c = reader-misses c.args.pass.now.pass.seat.me.0.view c.read_try.new.pass.seat.me.0.view c.args.pass.now.pass.seat.me.0.past c.read_try.new.pass.seat.me.0.past (sym c.requires.own.seat.held ∙ c.requires.out) c.read_try.ensures.on.last c.read_try.ensures.on.goes_on c.read_try.result c.read_try.ensures.missed c.read_try.ensures.shut c.read_try.ensures.lawful c.read_try.ensures.found
