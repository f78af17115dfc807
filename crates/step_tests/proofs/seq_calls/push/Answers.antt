-- The plan has one call more, which is one of the space's.
use Rattle.std.proofs.Common.{IsSome, length, ap, inr, refl, subst, sym, ◌∙◌}
use Rattle.lock_core.specs.Plans.{calls_in}
use Rattle.lock_core.specs.Records.{IsPlan}
use Rattle.lock_core.proofs.RowLaws.{length-appended, calls_in-appended}
use Rattle.vma_map.specs.Spaces.{space}
use Rattle.step_tests.proofs.Plans.{plan-appended}
use Rattle.step_tests.proofs.seq_calls.push.Goals as goal

pub returns-clause-tasks : goal.returns-clause-tasks
returns-clause-tasks c = ap length c.in_ok-push.ensures.ok ∙ length-appended c.args.plan.now c.args.task c.args.words

pub returns-clause-count : goal.returns-clause-count
returns-clause-count c = ap calls_in c.in_ok-push.ensures.ok ∙ calls_in-appended c.args.plan.now c.args.task c.args.words c.requires.there

pub returns-clause-calls : goal.returns-clause-calls
returns-clause-calls c = subst (IsPlan space) (sym c.in_ok-push.ensures.ok) (plan-appended space c.args.plan.now c.args.task c.args.words c.requires.there c.requires.calls (inr (subst IsSome (sym (sym c.call_of.ensures.value ∙ c.in-Some.is)) refl)))
