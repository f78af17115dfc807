use Rattle.std.proofs.Common.{length}
use Rattle.osq_nodes.specs.OsqSteps.{swap_place, IsCodeOrNone}
use Rattle.osq_nodes.proofs.steps.swap_tail.Given as goal

abbrev pub ghosts-step : goal.ghosts-step
ghosts-step a = record { to = λ p n. swap_place n; tells = IsCodeOrNone (length a.osq.now.site.table.shared.key) }
