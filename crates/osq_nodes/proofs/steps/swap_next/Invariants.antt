use Rattle.std.proofs.Common.{length}
use Rattle.osq_nodes.specs.OsqSteps.{take_place, taking_of, IsCodeOrNone}
use Rattle.osq_nodes.proofs.steps.swap_next.Given as goal

abbrev pub ghosts-step : goal.ghosts-step
ghosts-step a = record { to = λ p n. take_place (taking_of p) p n; tells = IsCodeOrNone (length a.osq.now.site.table.shared.key) }
