use Rattle.std.proofs.Common.{◌∙◌, ◌+◌, ◌<◌, length, ap, sym, subst, arith, refl, length-append}
use Rattle.word_bits.specs.Histories.{Plan}
use Rattle.lock_core.specs.Plans.{calls_in}
use Rattle.lock_core.specs.Records.{row, IsPlan}
use Rattle.lock_core.proofs.RowLaws.{length-appended, calls_in-appended, row-appended, row-beside}
use Rattle.vma_map.specs.Spaces.{space}
use Rattle.step_tests.specs.TestPercpuPasses.{Repeats}
use Rattle.step_tests.proofs.Plans.{plan-appended, repeats-appended}
use Rattle.step_tests.proofs.percpu_plans.push_calls.Goals as goal

pub loop-init : goal.loop-init
loop-init c = (refl, omega arith, c.requires.calls, ap length c.requires.empty, (λ n less. absurd (omega (arith, less))), λ t other. refl)

pub loop-preserved : goal.loop-preserved
loop-preserved c = let k = c.loop.plan in let t = c.args.task in let w = c.args.words in let i = c.loop.invariant in let tasks = i.0 in let calls = i.1 in let there = c.requires.there in let inside : t < length k = omega (arith, tasks, there) in let new = c.in_ok-push.ensures.ok in (
  ap length new ∙ (length-appended k t w ∙ tasks),
  ap calls_in new ∙ (calls_in-appended k t w inside ∙ omega (arith, calls)),
  subst (IsPlan space) (sym new) (plan-appended space k t w inside i.2 c.requires.words),
  ap (λ (p : Plan). length (row p t)) new ∙ (ap length (row-appended k t w inside) ∙ (length-append (row k t) _ ∙ omega (arith, i.3))),
  subst (λ (p : Plan). Repeats p t (c.loop.counter + 1) w) (sym new) (repeats-appended k t c.loop.counter w inside i.3 i.4),
  λ u other. ap (λ (p : Plan). row p u) new ∙ (row-beside k t u w other ∙ i.5 u other),
)
