use Rattle.wait_list.proofs.words.prepare.Goals as goal

pub store-requires-clause-host : goal.store-requires-clause-host
store-requires-clause-host g c = g.H.ListHost.may_stay c.args.pass.now.seat.me.0.view (g.H.ListHost.list c.args.pass.now.seat.me.0.view.ext).list
