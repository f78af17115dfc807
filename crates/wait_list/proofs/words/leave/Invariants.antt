use Rattle.wait_list.specs.Lists.{begun}
use Rattle.wait_list.proofs.words.leave.Given as goal

abbrev pub ghosts-store : goal.ghosts-store
ghosts-store g a = record { change = a._change; hand = begun a._change (g.H.ListHost.list a.pass.now.seat.me.0.view.ext) a.at a.new }
