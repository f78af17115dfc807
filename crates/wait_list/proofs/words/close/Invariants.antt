use Rattle.wait_list.specs.Lists.{ending}
use Rattle.wait_list.specs.Types.{Stay}
use Rattle.wait_list.proofs.words.close.Given as goal

abbrev pub ghosts-store : goal.ghosts-store
ghosts-store g a = record { change = Stay; hand = ending (g.H.ListHost.list a.pass.now.seat.me.0.view.ext) a.at a.new }
