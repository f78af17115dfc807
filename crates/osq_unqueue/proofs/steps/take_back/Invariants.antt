use Rattle.osq_nodes.specs.declared.node.Place.TheVariants.{Unlinked}
use Rattle.lock_core.specs.Ops.{first_of}
use Rattle.osq_nodes.specs.OsqSteps.{try_place, task_at}
use Rattle.osq_unqueue.proofs.steps.take_back.Given as goal

abbrev pub ghosts-step : goal.ghosts-step
ghosts-step a = record { to = λ p n. try_place p (Unlinked (task_at a.word)) (first_of a.op) n; tells = λ _. Unit {0} }
