use Rattle.osq_nodes.specs.OsqSteps.{relinking_of}
use Rattle.osq_unqueue.proofs.steps.splice.Given as goal

abbrev pub ghosts-step : goal.ghosts-step
ghosts-step a = record { to = λ p n. relinking_of p; tells = λ _. Unit {0} }
