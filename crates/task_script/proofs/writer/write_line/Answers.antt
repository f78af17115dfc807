use Rattle.std.proofs.Common.{◌++◌, ◌∙◌, ap, sym}
use Rattle.std.proofs.lemmas.Result.{err_from_is_err_and}
use Rattle.task_script.specs.Scripts.{call_words}
use Rattle.task_script.specs.Texts.{line_text, named_text}
use Rattle.byte_streams.proofs.Pieces.{adds_line, fronts_line}
use Rattle.task_script.proofs.Listings.{name_found}
use Rattle.task_script.proofs.writer.write_line.Goals as goal

pub returns-in_err-make_room-clause-text : goal.returns-in_err-make_room-clause-text
returns-in_err-make_room-clause-text g c = rw (err_from_is_err_and c.from_residual.result c.from_residual.ensures.1).1 (fronts_line (g.K.Sink.written c.args.sink.now) (g.K.Sink.written c.make_room.new.sink) c.args.out.now (line_text c.args.script.now.objects c.args.line) c.in_err-make_room.ensures.bytes)

pub returns-clause-text : goal.returns-clause-text
returns-clause-text g c =
    adds_line (g.K.Sink.written c.args.sink.now) (g.K.Sink.written c.make_room.new.sink) c.args.out.now c.make_room.new.self c.add_line.new.out (line_text c.args.script.now.objects c.args.line) c.in_ok-make_room.ensures.bytes
    (c.add_line.ensures ∙ ap (λ w. c.make_room.new.self ++ named_text c.name.result.now w) c.call.ensures ∙ ap (λ n. c.make_room.new.self ++ named_text n (call_words c.args.line)) (sym (name_found c.args.script.now.objects c.args.line.object _ c.name.ensures.name)))
