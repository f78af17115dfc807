use Rattle.std.proofs.Common.{arith, ◌∙◌, ap, refl}
use Rattle.byte_streams.specs.Causes.{one_more}
use Rattle.std.proofs.lemmas.Result.{err_from_is_err_and}
use Rattle.task_script.specs.Texts.{task_text}
use Rattle.byte_streams.proofs.Pieces.{pieces_begin, piece_added, piece_failed, pieces_done}
use Rattle.task_script.proofs.Mapped.{at_place}
use Rattle.task_script.proofs.writer.write_tasks.Goals as goal

pub loop-task-init : goal.loop-task-init
loop-task-init g c = record {
  text = pieces_begin (task_text c.args.script.now.objects) c.args.script.now.tasks (g.K.Sink.written c.args.sink.now) c.args.out.now;
  kept = refl;
}

pub returns-in_err-write_task-clause-text : goal.returns-in_err-write_task-clause-text
returns-in_err-write_task-clause-text g c = rw (err_from_is_err_and c.from_residual.result c.from_residual.ensures.1).1
    (let at = at_place c.args.script.now.tasks c.loop-task.task (omega arith) in piece_failed (task_text c.args.script.now.objects) c.args.script.now.tasks c.loop-task.task _ (g.K.Sink.written c.args.sink.now) (g.K.Sink.written c.loop-task.sink) (g.K.Sink.written c.write_task.new.sink) c.args.out.now c.loop-task.out at.1
    c.loop-task.invariant.text (c.in_err-write_task.ensures.text at.0 at.1))

pub returns-in_err-write_task-clause-cause : goal.returns-in_err-write_task-clause-cause
returns-in_err-write_task-clause-cause g c = rw (err_from_is_err_and c.from_residual.result c.from_residual.ensures.1).1 (c.in_err-write_task.ensures.cause ∙ ap one_more c.loop-task.invariant.kept)

pub loop-task-preserved : goal.loop-task-preserved
loop-task-preserved g c = record {
  text = let at = at_place c.args.script.now.tasks c.loop-task.task (omega arith) in piece_added (task_text c.args.script.now.objects) c.args.script.now.tasks c.loop-task.task _ (g.K.Sink.written c.args.sink.now) (g.K.Sink.written c.loop-task.sink) (g.K.Sink.written c.write_task.new.sink) c.args.out.now c.loop-task.out c.write_task.new.out at.1
      c.loop-task.invariant.text (c.in_ok-write_task.ensures.text at.0 at.1);
  kept = c.in_ok-write_task.ensures.cause ∙ c.loop-task.invariant.kept;
}

pub returns-clause-text : goal.returns-clause-text
returns-clause-text g c = pieces_done (task_text c.args.script.now.objects) c.args.script.now.tasks c.loop-task.task (g.K.Sink.written c.args.sink.now) (g.K.Sink.written c.loop-task.sink) c.args.out.now c.loop-task.out (omega arith) c.loop-task.invariant.text
