use Rattle.osq_nodes.specs.OsqSteps.{try_place}
use Rattle.osq_nodes.specs.Types.{Out}
use Rattle.lock_core.specs.Ops.{first_of}
use Rattle.osq_nodes.proofs.steps.leave_tail.Given as goal

abbrev pub ghosts-step : goal.ghosts-step
ghosts-step a = record { to = λ p n. try_place p Out (first_of a.op) n; tells = λ _. Unit {0} }
