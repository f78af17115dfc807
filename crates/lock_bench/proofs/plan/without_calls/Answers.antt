use Rattle.std.proofs.Common.{subst, sym}
use Rattle.lock_core.specs.Nothings.{nothing}
use Rattle.lock_core.specs.Records.{IsPlan}
use Rattle.lock_core.proofs.Planning.{empty-plan}
use Rattle.lock_bench.proofs.plan.without_calls.Goals as goal

pub returns-clause-plan : goal.returns-clause-plan
returns-clause-plan c = subst (IsPlan nothing) (sym c.in_ok-plan.ensures) (empty-plan nothing c.args.tasks)
