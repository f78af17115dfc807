use Rattle.std.proofs.Common.{get_or, ap, ◌∙◌, refl}
use Rattle.byte_streams.specs.Causes.{one_more}
use Rattle.std.proofs.lemmas.Option.{slice_get-get_or}
use Rattle.std.proofs.lemmas.Result.{err_from_is_err_and}
use Rattle.byte_streams.proofs.Pieces.{pieces_begin, piece_added, piece_failed, pieces_done}
use Rattle.mm_report.specs.Text.{area_text}
use Rattle.mm_report.specs.Types.{Area}
use Rattle.mm_report.proofs.state.write_areas.Goals as goal

pub loop-area-init : goal.loop-area-init
loop-area-init g c = record {
  text = pieces_begin area_text c.args.areas.now (g.K.Sink.written c.args.sink.now) c.args.out.now;
  kept = refl;
}

pub returns-in_err-write_area-clause-text : goal.returns-in_err-write_area-clause-text
returns-in_err-write_area-clause-text g c = rw (err_from_is_err_and c.from_residual.result c.from_residual.ensures.1).1
    (let i = c.loop-area.area-index in
    let d : Area = record { start = 0; end = 0; prot = 0 } in
    piece_failed area_text c.args.areas.now i (get_or c.args.areas.now i d) (g.K.Sink.written c.args.sink.now) (g.K.Sink.written c.loop-area.sink) (g.K.Sink.written c.write_area.new.sink) c.args.out.now c.loop-area.out (slice_get-get_or c.args.areas.now i d c.loop-area-test.true)
    c.loop-area.invariant.text c.in_err-write_area.ensures.text)

pub returns-in_err-write_area-clause-cause : goal.returns-in_err-write_area-clause-cause
returns-in_err-write_area-clause-cause g c = rw (err_from_is_err_and c.from_residual.result c.from_residual.ensures.1).1 (c.in_err-write_area.ensures.cause ∙ ap one_more c.loop-area.invariant.kept)

pub loop-area-preserved : goal.loop-area-preserved
loop-area-preserved g c = record {
  text =
      let i = c.loop-area.area-index in
      let d : Area = record { start = 0; end = 0; prot = 0 } in
      piece_added area_text c.args.areas.now i (get_or c.args.areas.now i d) (g.K.Sink.written c.args.sink.now) (g.K.Sink.written c.loop-area.sink) (g.K.Sink.written c.write_area.new.sink) c.args.out.now c.loop-area.out c.write_area.new.out (slice_get-get_or c.args.areas.now i d c.loop-area-test.true)
      c.loop-area.invariant.text c.in_ok-write_area.ensures.text;
  kept = c.in_ok-write_area.ensures.cause ∙ c.loop-area.invariant.kept;
}

pub returns-clause-text : goal.returns-clause-text
returns-clause-text g c =
    pieces_done area_text c.args.areas.now c.loop-area.area-index (g.K.Sink.written c.args.sink.now) (g.K.Sink.written c.loop-area.sink) c.args.out.now c.loop-area.out c.loop-area-test.false c.loop-area.invariant.text
