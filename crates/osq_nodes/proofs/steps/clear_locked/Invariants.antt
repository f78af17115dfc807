use Rattle.osq_nodes.specs.Types.{Cleared}
use Rattle.osq_nodes.proofs.steps.clear_locked.Given as goal

abbrev pub ghosts-step : goal.ghosts-step
ghosts-step a = record { to = λ p n. Cleared; tells = λ _. Unit {0} }
