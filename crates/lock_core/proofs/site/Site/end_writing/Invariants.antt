use Rattle.lock_core.specs.declared.layout.TheConstants.{LOCK_WORDS}
use Rattle.lock_core.proofs.site.Site.end_writing.Given as goal

abbrev pub ghosts-step_stored : goal.ghosts-step_stored
ghosts-step_stored g a = record { place = LOCK_WORDS }
