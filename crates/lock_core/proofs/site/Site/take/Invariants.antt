use Rattle.lock_core.proofs.site.Site.take.Given as goal

abbrev pub ghosts-step_stored : goal.ghosts-step_stored
ghosts-step_stored g a = record { place = a._word }
