use Rattle.std.proofs.Common.{slice_index}
use Rattle.kept_demo.proofs.queue.relay.Given as goal

abbrev pub ghosts-relay_as : goal.ghosts-relay_as
ghosts-relay_as g a = record { item = λ i. slice_index a.items.now i }
