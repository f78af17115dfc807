use Rattle.std.proofs.Common.{length}
use Rattle.std.specs.Prelude.{flat_map}
use Rattle.std.proofs.lemmas.Result.{err_from_is_err_and}
use Rattle.byte_streams.proofs.Pieces.{adds_then, fronts_more}
use Rattle.mm_report.specs.Text.{area_text, left_text}
use Rattle.mm_report.proofs.state.write_runs.Goals as goal

pub returns-in_err-write_count-clause-text : goal.returns-in_err-write_count-clause-text
returns-in_err-write_count-clause-text g c = rw (err_from_is_err_and c.from_residual.result c.from_residual.ensures.1).1
    (fronts_more (g.K.Sink.written c.args.sink.now) (g.K.Sink.written c.write_count.new.sink) c.args.out.now (left_text (length c.args.runs.now)) (flat_map area_text c.args.runs.now) c.in_err-write_count.ensures.text)

pub returns-clause-text : goal.returns-clause-text
returns-clause-text g c =
    adds_then (g.K.Sink.written c.args.sink.now) (g.K.Sink.written c.write_count.new.sink) (g.K.Sink.written c.write_areas.new.sink) c.args.out.now c.write_count.new.out c.write_areas.new.out (left_text (length c.args.runs.now)) (flat_map area_text c.args.runs.now) c.write_areas.result
    c.in_ok-write_count.ensures.text c.write_areas.ensures.text
