use Rattle.std.proofs.Common.{length, ap, sym, ◌∙◌, subst, arith}
use Rattle.std.proofs.lemmas.List.{length-replicate}
use Rattle.lock_core.specs.Plans.{calls_in}
use Rattle.lock_core.specs.Records.{IsPlan}
use Rattle.lock_core.proofs.Planning.{calls_in-empty, empty-plan}
use Rattle.plan_runs.proofs.plans.plan_with.Goals as goal

pub loop-row-init : goal.loop-row-init
loop-row-init g c = let new = c.in_ok-plan.ensures in let none = ap calls_in new ∙ calls_in-empty c.args.tasks in (ap length new ∙ length-replicate c.args.tasks _, omega (arith, none), subst (IsPlan g.O.Object.object) (sym new) (empty-plan g.O.Object.object c.args.tasks))
