use Rattle.osq_nodes.specs.OsqSteps.{look_place}
use Rattle.osq_nodes.proofs.steps.is_granted.Given as goal

abbrev pub ghosts-step : goal.ghosts-step
ghosts-step a = record { to = λ p n. look_place n; tells = λ _. Unit {0} }
