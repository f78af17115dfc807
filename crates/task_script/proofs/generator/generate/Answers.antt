use Rattle.std.proofs.Common.{◌≡◌, sym, ap, ◌∙◌, subst, arith}
use Rattle.std.proofs.lemmas.Result.{IfOk-weaker}
use Rattle.task_script.specs.Inside.{listing}
use Rattle.task_script.specs.Scripts.{count_of_calls}
use Rattle.task_script.specs.Sound.{IsSound}
use Rattle.task_script.specs.Types.{One}
use Rattle.task_script.proofs.Random.{generated_count, generated_is, generated_sound, tasks_more}
use Rattle.task_script.proofs.generator.generate.Goals as goal

pub loop-task-preserved : goal.loop-task-preserved
loop-task-preserved c =
    rw c.in_ok-push.ensures.items
    (tasks_more c.args.number c.loop-task.task c.loop-task.tasks.items c.in_ok-random_lines.field-0 c.loop-task.invariant c.in_ok-random_lines.ensures)

pub new-requires : goal.new-requires
new-requires c = record { sound = subst IsSound (sym (generated_is c.args.number c.loop-task.task c.in_ok-objects.objects.entries c.loop-task.tasks.items (omega arith) c.in_ok-objects.ensures c.loop-task.invariant)) (generated_sound c.args.number) }

pub returns-clause-few : goal.returns-clause-few
returns-clause-few c = IfOk-weaker c.new.result (λ s. s ≡ listing One c.in_ok-objects.objects.entries c.loop-task.tasks.items) (λ s. count_of_calls s ≡ 16000) (λ s is. ap count_of_calls (is ∙ generated_is c.args.number c.loop-task.task c.in_ok-objects.objects.entries c.loop-task.tasks.items (omega arith) c.in_ok-objects.ensures c.loop-task.invariant) ∙ generated_count c.args.number) c.new.ensures.parts

pub returns-clause-sound : goal.returns-clause-sound
returns-clause-sound c = IfOk-weaker c.new.result (λ s. s ≡ listing One c.in_ok-objects.objects.entries c.loop-task.tasks.items) IsSound (λ s is. subst IsSound (sym (is ∙ generated_is c.args.number c.loop-task.task c.in_ok-objects.objects.entries c.loop-task.tasks.items (omega arith) c.in_ok-objects.ensures c.loop-task.invariant)) (generated_sound c.args.number)) c.new.ensures.parts
