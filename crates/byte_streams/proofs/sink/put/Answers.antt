use Rattle.std.proofs.Common.{length, ◌∙◌}
use Rattle.std.specs.List.{between}
use Rattle.byte_streams.proofs.Ways.{way_sent, taken_sent}
use Rattle.byte_streams.proofs.sink.put.Goals as goal

pub loop-rest-preserved : goal.loop-rest-preserved
loop-rest-preserved g c =
    let loop = c.loop-rest in
    let wrote = c.in_ok-count.ensures in
    let written = g.K.Sink.written in
    record {
      way = way_sent (written c.args.sink.now) (written loop.sink) (written c.write.new.self) loop.rest.now (between c.in_ok-count.count (length loop.rest.now) loop.rest.now) c.args.piece.now loop.invariant.way (taken_sent (written loop.sink) (written c.write.new.self) loop.rest.now c.in_ok-count.count wrote.bytes);
      kept = wrote.cause ∙ loop.invariant.kept;
    }
