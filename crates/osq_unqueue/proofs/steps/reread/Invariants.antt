use Rattle.std.proofs.Common.{length}
use Rattle.osq_nodes.specs.OsqKept.{IsCode}
use Rattle.osq_unqueue.proofs.steps.reread.Given as goal

abbrev pub ghosts-step : goal.ghosts-step
ghosts-step a = record { to = λ p n. p; tells = IsCode (length a.osq.now.site.table.shared.key) }
