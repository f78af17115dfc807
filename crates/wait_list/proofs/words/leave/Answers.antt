use Rattle.wait_list.proofs.Removing.{leave-may}
use Rattle.wait_list.proofs.words.leave.Goals as goal

pub store-requires-clause-may : goal.store-requires-clause-may
store-requires-clause-may g c = let v = c.args.pass.now.seat.me.0.view in leave-may v.spin (g.H.ListHost.list v.ext) c.args.task c.args.at c.args.new c.requires.knows c.requires.lists c.requires.inside.0
