use Rattle.std.proofs.Common.{List, [], ◌∙◌, length, ap, sym, subst, arith}
use Rattle.std.proofs.lemmas.List.{length-replicate}
use Rattle.word_bits.specs.declared.call.CallWords.{CallWords}
use Rattle.word_bits.specs.Histories.{Plan}
use Rattle.lock_core.specs.Plans.{calls_in}
use Rattle.lock_core.specs.Records.{row, IsPlan}
use Rattle.lock_core.proofs.Planning.{calls_in-empty, empty-plan}
use Rattle.vma_map.specs.Spaces.{space}
use Rattle.step_tests.proofs.Plans.{empty-rows}
use Rattle.step_tests.proofs.percpu_plans.one_call.Goals as goal

pub push_calls-requires-clause-there : goal.push_calls-requires-clause-there
push_calls-requires-clause-there c = let tasks = ap length c.in_ok-plan.ensures ∙ length-replicate {A = List CallWords} 3 [] in omega (arith, tasks)

pub push_calls-requires-clause-room : goal.push_calls-requires-clause-room
push_calls-requires-clause-room c = let calls = ap calls_in c.in_ok-plan.ensures ∙ calls_in-empty 3 in omega (arith, calls)

pub push_calls-requires-clause-calls : goal.push_calls-requires-clause-calls
push_calls-requires-clause-calls c = subst (IsPlan space) (sym c.in_ok-plan.ensures) (empty-plan space 3)

pub push_calls-requires-clause-empty : goal.push_calls-requires-clause-empty
push_calls-requires-clause-empty c = ap (λ (p : Plan). row p 1) c.in_ok-plan.ensures ∙ empty-rows 3 1

pub returns-clause-tasks : goal.returns-clause-tasks
returns-clause-tasks c = c.in_ok-push_calls.ensures.tasks ∙ (ap length c.in_ok-plan.ensures ∙ length-replicate {A = List CallWords} 3 [])
