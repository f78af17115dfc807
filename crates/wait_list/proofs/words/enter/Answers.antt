use Rattle.wait_list.proofs.Appending.{enter-may}
use Rattle.wait_list.proofs.words.enter.Goals as goal

pub store-requires-clause-may : goal.store-requires-clause-may
store-requires-clause-may g c = let v = c.args.pass.now.seat.me.0.view in enter-may v.spin (g.H.ListHost.list v.ext) c.args.waiter _ c.requires.knows c.requires.lists
