use Rattle.std.proofs.Common.{◌<◌, length, ap, sym, ◌∙◌, subst, arith}
use Rattle.lock_core.specs.Plans.{calls_in}
use Rattle.lock_core.specs.Records.{IsPlan}
use Rattle.lock_core.proofs.RowLaws.{length-appended, calls_in-appended}
use Rattle.plan_runs.proofs.Planned.{plan-appended}
use Rattle.plan_runs.proofs.plans.push_calls.Goals as goal

pub loop-preserved : goal.loop-preserved
loop-preserved g c = let k = c.loop.plan in let t = c.args.task in let w = c.args.call in let i = c.loop.invariant in let tasks = i.0 in let calls = i.1 in let there = c.requires.there in let inside : t < length k = omega (arith, tasks, there) in let new = c.in_ok-push.ensures.ok in (
  ap length new ∙ (length-appended k t w ∙ tasks),
  ap calls_in new ∙ (calls_in-appended k t w inside ∙ omega (arith, calls)),
  subst (IsPlan g.O.Object.object) (sym new) (plan-appended g.O.Object.object k t w inside i.2 c.requires.call),
)
