use Rattle.std.proofs.Common.{arith, ◌∙◌, ap, refl}
use Rattle.byte_streams.specs.Causes.{one_more}
use Rattle.std.proofs.lemmas.Result.{err_from_is_err_and}
use Rattle.task_script.specs.Texts.{declaration_text}
use Rattle.byte_streams.proofs.Pieces.{pieces_begin, piece_added, piece_failed, pieces_done}
use Rattle.task_script.proofs.Mapped.{at_place}
use Rattle.task_script.proofs.writer.write_declarations.Goals as goal

pub loop-object-init : goal.loop-object-init
loop-object-init g c = record {
  text = pieces_begin declaration_text c.args.script.now.objects (g.K.Sink.written c.args.sink.now) c.args.out.now;
  kept = refl;
}

pub returns-in_err-write_declaration-clause-text : goal.returns-in_err-write_declaration-clause-text
returns-in_err-write_declaration-clause-text g c = rw (err_from_is_err_and c.from_residual.result c.from_residual.ensures.1).1
    (let at = at_place c.args.script.now.objects c.loop-object.object (omega arith) in piece_failed declaration_text c.args.script.now.objects c.loop-object.object _ (g.K.Sink.written c.args.sink.now) (g.K.Sink.written c.loop-object.sink) (g.K.Sink.written c.write_declaration.new.sink) c.args.out.now c.loop-object.out at.1
    c.loop-object.invariant.text (c.in_err-write_declaration.ensures.text at.0 at.1))

pub returns-in_err-write_declaration-clause-cause : goal.returns-in_err-write_declaration-clause-cause
returns-in_err-write_declaration-clause-cause g c = rw (err_from_is_err_and c.from_residual.result c.from_residual.ensures.1).1 (c.in_err-write_declaration.ensures.cause ∙ ap one_more c.loop-object.invariant.kept)

pub loop-object-preserved : goal.loop-object-preserved
loop-object-preserved g c = record {
  text = let at = at_place c.args.script.now.objects c.loop-object.object (omega arith) in piece_added declaration_text c.args.script.now.objects c.loop-object.object _ (g.K.Sink.written c.args.sink.now) (g.K.Sink.written c.loop-object.sink) (g.K.Sink.written c.write_declaration.new.sink) c.args.out.now c.loop-object.out c.write_declaration.new.out at.1
      c.loop-object.invariant.text (c.in_ok-write_declaration.ensures.text at.0 at.1);
  kept = c.in_ok-write_declaration.ensures.cause ∙ c.loop-object.invariant.kept;
}

pub returns-clause-text : goal.returns-clause-text
returns-clause-text g c = pieces_done declaration_text c.args.script.now.objects c.loop-object.object (g.K.Sink.written c.args.sink.now) (g.K.Sink.written c.loop-object.sink) c.args.out.now c.loop-object.out (omega arith) c.loop-object.invariant.text
