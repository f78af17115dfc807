use Rattle.std.proofs.Common.{◌∙◌, codes, subst, sym}
use Rattle.std.specs.Prelude.{flat_map}
use Rattle.std.proofs.lemmas.Option.{same_Some}
use Rattle.std.proofs.lemmas.Result.{err_from_is_err_and}
use Rattle.byte_streams.specs.Causes.{Adds}
use Rattle.task_script.specs.Texts.{line_text, task_text}
use Rattle.byte_streams.proofs.Pieces.{adds_line, adds_then, fronts_line}
use Rattle.task_script.proofs.writer.write_task.Goals as goal

pub returns-in_err-make_room-clause-text : goal.returns-in_err-make_room-clause-text
returns-in_err-make_room-clause-text g c = rw (err_from_is_err_and c.from_residual.result c.from_residual.ensures.1).1 (λ ls at. fronts_line (g.K.Sink.written c.args.sink.now) (g.K.Sink.written c.make_room.new.sink) c.args.out.now (task_text c.args.script.now.objects ls) c.in_err-make_room.ensures.bytes)

pub returns-clause-text : goal.returns-clause-text
returns-clause-text g c = λ ls at.
    let way = adds_line (g.K.Sink.written c.args.sink.now) (g.K.Sink.written c.make_room.new.sink) c.args.out.now c.make_room.new.self c.add.new.self (codes "task\n") c.in_ok-make_room.ensures.bytes c.add.ensures in
    let same = same_Some c.calls.result.now ls (sym c.calls.ensures.calls ∙ at) in
    subst (λ ls. Adds (g.K.Sink.written c.args.sink.now) (g.K.Sink.written c.write_calls.new.sink) c.args.out.now c.write_calls.new.out (task_text c.args.script.now.objects ls) c.write_calls.result) same
    (adds_then (g.K.Sink.written c.args.sink.now) (g.K.Sink.written c.make_room.new.sink) (g.K.Sink.written c.write_calls.new.sink) c.args.out.now c.add.new.self c.write_calls.new.out (codes "task\n")
    (flat_map (line_text c.args.script.now.objects) c.calls.result.now) c.write_calls.result way c.write_calls.ensures.text)
