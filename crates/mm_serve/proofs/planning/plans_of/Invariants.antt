use Rattle.mm_serve.specs.ObjectsOpening.{HaveRoom}
use Rattle.mm_serve.proofs.Filling.{ArePlannedTo}
use Rattle.mm_serve.proofs.planning.plans_of.Given as goal

abbrev pub invariant-loop-task : goal.invariant-loop-task
invariant-loop-task l = ArePlannedTo l.script l.task l.plans.items × HaveRoom l.room l.plans.items
