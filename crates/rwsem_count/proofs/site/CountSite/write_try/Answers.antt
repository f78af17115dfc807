use Rattle.std.proofs.Common.{sym, ◌∙◌}
use Rattle.rwsem_count.proofs.Showing.{writer-misses}
use Rattle.rwsem_count.proofs.site.CountSite.write_try.Goals as goal

pub returns-clause-misses : goal.returns-clause-misses
returns-clause-misses g c = writer-misses c.args.pass.now.pass.seat.me.0.view c.write_try.new.pass.seat.me.0.view c.args.pass.now.pass.seat.me.0.past c.write_try.new.pass.seat.me.0.past (sym c.requires.own.seat.held ∙ c.requires.out) c.write_try.ensures.on.last c.write_try.ensures.on.goes_on c.write_try.result c.write_try.ensures.missed c.write_try.ensures.shut c.write_try.ensures.found
