use Rattle.wait_list.proofs.Finding.{finds-first}
use Rattle.wait_list.proofs.list.first.Goals as goal

pub returns-clause-told : goal.returns-clause-told
returns-clause-told g c = finds-first g.H.ListHost.list g.H.ListHost.with_list c.args.pass.now.seat.me.0.view c.behind.new.pass.seat.me.0.view c.requires.still c.behind.result c.behind.ensures.told
