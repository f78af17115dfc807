use Rattle.osq_nodes.specs.Types.{Waiting}
use Rattle.osq_nodes.proofs.steps.link.Given as goal

abbrev pub ghosts-step : goal.ghosts-step
ghosts-step a = record { to = λ p n. Waiting; tells = λ _. Unit {0} }
