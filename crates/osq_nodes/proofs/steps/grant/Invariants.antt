use Rattle.osq_nodes.specs.Types.{Out}
use Rattle.osq_nodes.proofs.steps.grant.Given as goal

abbrev pub ghosts-step : goal.ghosts-step
ghosts-step a = record { to = λ p n. Out; tells = λ _. Unit {0} }
