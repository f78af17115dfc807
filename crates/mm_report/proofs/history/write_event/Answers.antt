use Rattle.std.proofs.lemmas.Result.{err_from_is_err_and}
use Rattle.byte_streams.proofs.Pieces.{fronts_line}
use Rattle.mm_report.specs.Text.{event_line}
use Rattle.mm_report.proofs.history.write_event.Goals as goal

pub returns-in_err-make_room-clause-text : goal.returns-in_err-make_room-clause-text
returns-in_err-make_room-clause-text g c = rw (err_from_is_err_and c.from_residual.result c.from_residual.ensures.1).1 (fronts_line (g.K.Sink.written c.args.sink.now) (g.K.Sink.written c.make_room.new.sink) c.args.out.now (event_line c.args.task c.args.number c.args.words c.args.reply) c.in_err-make_room.ensures.bytes)
