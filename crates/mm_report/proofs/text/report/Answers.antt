use Rattle.byte_streams.proofs.Pieces.{sent}
use Rattle.mm_report.specs.Reports.{report_of}
use Rattle.mm_report.proofs.text.report.Goals as goal

pub returns-clause-text : goal.returns-clause-text
returns-clause-text g c = λ told legal.
    let way = c.in_ok-write_objects.ensures.text told legal in
    sent (g.K.Sink.written c.args.sink.now) (g.K.Sink.written c.write_objects.new.sink) (g.K.Sink.written c.flush.new.sink) c.write_objects.new.out c.flush.new.self (report_of c.args.summary c.args.script.now told) c.flush.result (rw c.new-out.ensures at way) c.flush.ensures.bytes
