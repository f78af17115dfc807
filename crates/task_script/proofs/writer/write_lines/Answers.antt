use Rattle.std.proofs.lemmas.Result.{err_from_is_err_and}
use Rattle.task_script.specs.Texts.{body_text}
use Rattle.task_script.specs.Versions.{version_text}
use Rattle.byte_streams.proofs.Pieces.{adds_then, fronts_more}
use Rattle.task_script.proofs.writer.write_lines.Goals as goal

pub returns-in_err-write_version-clause-text : goal.returns-in_err-write_version-clause-text
returns-in_err-write_version-clause-text g c = rw (err_from_is_err_and c.from_residual.result c.from_residual.ensures.1).1
    (fronts_more (g.K.Sink.written c.args.sink.now) (g.K.Sink.written c.write_version.new.sink) c.args.out.now (version_text c.args.script.now.version) (body_text c.args.script.now) c.in_err-write_version.ensures.text)

pub returns-clause-text : goal.returns-clause-text
returns-clause-text g c =
    adds_then (g.K.Sink.written c.args.sink.now) (g.K.Sink.written c.write_version.new.sink) (g.K.Sink.written c.write_body.new.sink) c.args.out.now c.write_version.new.out c.write_body.new.out
    (version_text c.args.script.now.version) (body_text c.args.script.now) c.write_body.result c.in_ok-write_version.ensures.text c.write_body.ensures.text
