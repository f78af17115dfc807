-- A plan without calls has none that isn't one of the space's.
use Rattle.std.proofs.Common.{subst, sym}
use Rattle.lock_core.specs.Records.{IsPlan}
use Rattle.lock_core.proofs.Planning.{empty-plan}
use Rattle.vma_map.specs.Spaces.{space}
use Rattle.step_tests.proofs.faults_tests.planned.Goals as goal

pub push_all-requires-clause-calls : goal.push_all-requires-clause-calls
push_all-requires-clause-calls c = subst (IsPlan space) (sym c.in_ok-plan.ensures) (empty-plan space 4)
