use Rattle.std.proofs.Common.{◌≡◌, length}
use Rattle.byte_streams.specs.Causes.{IsOnItsWay}
use Rattle.byte_streams.proofs.sink.put.Given as goal

abbrev pub invariant-loop-rest : goal.invariant-loop-rest
invariant-loop-rest g l = record {
  way : IsOnItsWay (g.K.Sink.written l.fn.sink) (g.K.Sink.written l.sink) l.rest l.piece;
  kept : g.K.Sink.faults l.sink ≡ g.K.Sink.faults l.fn.sink;
}

abbrev pub decreases-loop-rest : goal.decreases-loop-rest
decreases-loop-rest g l = length l.rest
