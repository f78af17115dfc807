use Rattle.std.specs.Prelude.{flat_map}
use Rattle.std.proofs.lemmas.Result.{err_from_is_err_and}
use Rattle.task_script.specs.Texts.{declaration_text, task_text}
use Rattle.byte_streams.proofs.Pieces.{adds_then, fronts_more}
use Rattle.task_script.proofs.writer.write_body.Goals as goal

pub returns-in_err-write_declarations-clause-text : goal.returns-in_err-write_declarations-clause-text
returns-in_err-write_declarations-clause-text g c = rw (err_from_is_err_and c.from_residual.result c.from_residual.ensures.1).1
    (fronts_more (g.K.Sink.written c.args.sink.now) (g.K.Sink.written c.write_declarations.new.sink) c.args.out.now (flat_map declaration_text c.args.script.now.objects) (flat_map (task_text c.args.script.now.objects) c.args.script.now.tasks) c.in_err-write_declarations.ensures.text)

pub returns-clause-text : goal.returns-clause-text
returns-clause-text g c =
    adds_then (g.K.Sink.written c.args.sink.now) (g.K.Sink.written c.write_declarations.new.sink) (g.K.Sink.written c.write_tasks.new.sink) c.args.out.now c.write_declarations.new.out c.write_tasks.new.out
    (flat_map declaration_text c.args.script.now.objects) (flat_map (task_text c.args.script.now.objects) c.args.script.now.tasks) c.write_tasks.result c.in_ok-write_declarations.ensures.text c.write_tasks.ensures.text
