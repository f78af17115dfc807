use Rattle.std.proofs.Common.{◌≡◌, ◌++◌, take}
use Rattle.std.specs.Prelude.{flat_map}
use Rattle.byte_streams.specs.Causes.{IsOnItsWay}
use Rattle.mm_report.specs.Text.{area_text}
use Rattle.mm_report.proofs.state.write_areas.Given as goal

abbrev pub invariant-loop-area : goal.invariant-loop-area
invariant-loop-area g l = record {
  text : IsOnItsWay (g.K.Sink.written l.fn.sink) (g.K.Sink.written l.sink) l.out (l.fn.out ++ flat_map area_text (take l.area-index l.areas));
  kept : g.K.Sink.faults l.sink ≡ g.K.Sink.faults l.fn.sink;
}
