use Rattle.std.proofs.Common.{List, ◌∙◌, ℕ, [], length, ap, sym, subst, arith}
use Rattle.std.proofs.lemmas.List.{length-replicate}
use mathlib.Core.Logic.{dite}
use native.Mathlib.Decide.{ℕ_discrete}
use Rattle.word_bits.specs.declared.call.CallWords.{CallWords}
use Rattle.word_bits.specs.Histories.{Plan}
use Rattle.lock_core.specs.Plans.{calls_in}
use Rattle.lock_core.specs.Records.{row, IsPlan}
use Rattle.lock_core.proofs.Planning.{calls_in-empty, empty-plan}
use Rattle.vma_map.specs.Spaces.{space}
use Rattle.step_tests.specs.TestPercpuPasses.{Repeats}
use Rattle.step_tests.proofs.Plans.{empty-rows, repeats-on}
use Rattle.step_tests.proofs.percpu_plans.planned.Goals as goal

pub loop-task-init : goal.loop-task-init
loop-task-init c = let new = c.in_ok-plan.ensures in (omega arith, ap length new ∙ length-replicate {A = List CallWords} 4 [], ap calls_in new ∙ (calls_in-empty 4 ∙ omega arith), subst (IsPlan space) (sym new) (empty-plan space 4), (λ t less n under. absurd (omega (arith, less))), λ t least. ap (λ (p : Plan). row p t) new ∙ empty-rows 4 t)

pub push_calls-requires-clause-empty : goal.push_calls-requires-clause-empty
push_calls-requires-clause-empty c = c.loop-task.invariant.5 c.loop-task.task (omega arith)

pub loop-task-preserved : goal.loop-task-preserved
loop-task-preserved c = let i = c.loop-task.invariant in let e = c.in_ok-push_calls.ensures in let tasks = i.1 in let calls = i.2 in let more = e.count in let less = c.loop-task-test.true in (
  omega (arith, less),
  e.tasks ∙ tasks,
  more ∙ omega (arith, calls),
  e.calls,
  (λ t below. dite (ℕ_discrete t c.loop-task.task)
      (λ same. subst (λ (u : ℕ). Repeats c.push_calls.new.plan u c.args.count c.args.words) (sym same) e.its_own)
      (λ other. repeats-on c.loop-task.plan c.push_calls.new.plan t c.args.count c.args.words (e.others t other) (i.4 t (omega (arith, below, other))))),
  λ t least. e.others t (λ same. omega (arith, same, least)) ∙ i.5 t (omega (arith, least)),
)
