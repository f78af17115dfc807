use Rattle.std.proofs.Common.{◌++◌, ◌∙◌, ap}
use Rattle.std.proofs.lemmas.Result.{err_from_is_err_and}
use Rattle.task_script.specs.Versions.{version_text}
use Rattle.byte_streams.proofs.Pieces.{adds_line, fronts_line}
use Rattle.task_script.proofs.writer.write_version.Goals as goal

pub returns-in_err-make_room-clause-text : goal.returns-in_err-make_room-clause-text
returns-in_err-make_room-clause-text g c = rw (err_from_is_err_and c.from_residual.result c.from_residual.ensures.1).1 (fronts_line (g.K.Sink.written c.args.sink.now) (g.K.Sink.written c.make_room.new.sink) c.args.out.now (version_text c.args.script.now.version) c.in_err-make_room.ensures.bytes)

pub returns-clause-text : goal.returns-clause-text
returns-clause-text g c =
    adds_line (g.K.Sink.written c.args.sink.now) (g.K.Sink.written c.make_room.new.sink) c.args.out.now c.make_room.new.self c.add_version.new.out (version_text c.args.script.now.version) c.in_ok-make_room.ensures.bytes
    (c.add_version.ensures ∙ ap (λ v. c.make_room.new.self ++ version_text v) c.language-version.ensures.version)
