use Rattle.task_script.specs.Texts.{canonical_text}
use Rattle.byte_streams.proofs.Pieces.{sent}
use Rattle.task_script.proofs.writer.write.Goals as goal

pub returns-clause-text : goal.returns-clause-text
returns-clause-text g c =
    sent (g.K.Sink.written c.args.sink.now) (g.K.Sink.written c.write_lines.new.sink) (g.K.Sink.written c.flush.new.sink) c.write_lines.new.out c.flush.new.self (canonical_text c.args.script.now) c.flush.result (rw c.new-out.ensures at c.in_ok-write_lines.ensures.text) c.flush.ensures.bytes
