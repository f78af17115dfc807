use Rattle.lock_core.specs.Views.{consuming}
use Rattle.lock_core.proofs.site.Site.consume_pending.Given as goal

abbrev pub ghosts-put : goal.ghosts-put
ghosts-put g a = record { hand = consuming a.pass.now.seat.me.0.view.hand }
