use Rattle.std.proofs.Common.{◌+◌, ◌-◌, ◌/◌}
use Rattle.lock_core.specs.Views.{sending}
use Rattle.lock_core.proofs.site.Site.signal.Given as goal
use Rattle.lock_core.specs.declared.layout.TheConstants.{LINES_AT}

abbrev pub ghosts-add : goal.ghosts-add
ghosts-add g a = record { hand = sending a.pass.now.seat.me.0.view.hand ((a.at - (LINES_AT + 1)) / 8) }
