use Rattle.std.proofs.Common.{arith, [], ◌∙◌, ap, refl}
use Rattle.byte_streams.specs.Causes.{one_more}
use Rattle.std.proofs.lemmas.Option.{slice_get-get_or}
use Rattle.std.proofs.lemmas.Result.{err_from_is_err_and}
use Rattle.task_script.specs.Texts.{line_text}
use Rattle.task_script.specs.declared.script.Line.{Line}
use Rattle.byte_streams.proofs.Pieces.{pieces_begin, piece_added, piece_failed, pieces_done}
use Rattle.task_script.proofs.writer.write_calls.Goals as goal

pub loop-line-init : goal.loop-line-init
loop-line-init g c = record {
  text = pieces_begin (line_text c.args.script.now.objects) c.args.lines.now (g.K.Sink.written c.args.sink.now) c.args.out.now;
  kept = refl;
}

pub returns-in_err-write_line-clause-text : goal.returns-in_err-write_line-clause-text
returns-in_err-write_line-clause-text g c = rw (err_from_is_err_and c.from_residual.result c.from_residual.ensures.1).1
    (piece_failed (line_text c.args.script.now.objects) c.args.lines.now c.loop-line.line-index _ (g.K.Sink.written c.args.sink.now) (g.K.Sink.written c.loop-line.sink) (g.K.Sink.written c.write_line.new.sink) c.args.out.now c.loop-line.out (slice_get-get_or c.args.lines.now c.loop-line.line-index (let l : Line = record { object = 0; words = [] } in l) c.loop-line-test.true)
    c.loop-line.invariant.text c.in_err-write_line.ensures.text)

pub returns-in_err-write_line-clause-cause : goal.returns-in_err-write_line-clause-cause
returns-in_err-write_line-clause-cause g c = rw (err_from_is_err_and c.from_residual.result c.from_residual.ensures.1).1 (c.in_err-write_line.ensures.cause ∙ ap one_more c.loop-line.invariant.kept)

pub loop-line-preserved : goal.loop-line-preserved
loop-line-preserved g c = record {
  text = piece_added (line_text c.args.script.now.objects) c.args.lines.now c.loop-line.line-index _ (g.K.Sink.written c.args.sink.now) (g.K.Sink.written c.loop-line.sink) (g.K.Sink.written c.write_line.new.sink) c.args.out.now c.loop-line.out c.write_line.new.out (slice_get-get_or c.args.lines.now c.loop-line.line-index (let l : Line = record { object = 0; words = [] } in l) c.loop-line-test.true)
      c.loop-line.invariant.text c.in_ok-write_line.ensures.text;
  kept = c.in_ok-write_line.ensures.cause ∙ c.loop-line.invariant.kept;
}

pub returns-clause-text : goal.returns-clause-text
returns-clause-text g c = pieces_done (line_text c.args.script.now.objects) c.args.lines.now c.loop-line.line-index (g.K.Sink.written c.args.sink.now) (g.K.Sink.written c.loop-line.sink) c.args.out.now c.loop-line.out (omega arith) c.loop-line.invariant.text
