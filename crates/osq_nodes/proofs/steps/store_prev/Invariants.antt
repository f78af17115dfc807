use Rattle.osq_nodes.specs.OsqSteps.{linking_of}
use Rattle.osq_nodes.proofs.steps.store_prev.Given as goal

abbrev pub ghosts-step : goal.ghosts-step
ghosts-step a = record { to = λ p n. linking_of p; tells = λ _. Unit {0} }
