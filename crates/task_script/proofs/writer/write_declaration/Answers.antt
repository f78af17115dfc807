use Rattle.std.proofs.Common.{◌++◌, ◌∙◌, ap, refl}
use Rattle.std.proofs.lemmas.Result.{err_from_is_err_and}
use Rattle.task_script.specs.Scripts.{Declared}
use Rattle.task_script.specs.Texts.{declaration_text}
use Rattle.byte_streams.proofs.Pieces.{adds_line, fronts_line}
use Rattle.task_script.proofs.Mapped.{mapped_same}
use Rattle.task_script.proofs.writer.write_declaration.Goals as goal

pub returns-in_err-make_room-clause-text : goal.returns-in_err-make_room-clause-text
returns-in_err-make_room-clause-text g c = rw (err_from_is_err_and c.from_residual.result c.from_residual.ensures.1).1 (λ d at. fronts_line (g.K.Sink.written c.args.sink.now) (g.K.Sink.written c.make_room.new.sink) c.args.out.now (declaration_text d) c.in_err-make_room.ensures.bytes)

pub returns-clause-text : goal.returns-clause-text
returns-clause-text g c = λ d at.
    let kind = mapped_same (λ (e : Declared). e.is_space) c.args.script.now.objects c.args.object d _ at c.is_space.ensures in
    let name = mapped_same (λ (e : Declared). e.name) c.args.script.now.objects c.args.object d _ at c.name.ensures.name in
    adds_line (g.K.Sink.written c.args.sink.now) (g.K.Sink.written c.make_room.new.sink) c.args.out.now c.make_room.new.self c.add_declaration.new.out (declaration_text d) c.in_ok-make_room.ensures.bytes
    (c.add_declaration.ensures.text ∙ ap (λ l. c.make_room.new.self ++ l) (rw (kind, name) refl))
