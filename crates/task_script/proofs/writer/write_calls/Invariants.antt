use Rattle.std.proofs.Common.{◌≡◌, ◌++◌, take}
use Rattle.std.specs.Prelude.{flat_map}
use Rattle.byte_streams.specs.Causes.{IsOnItsWay}
use Rattle.task_script.specs.Texts.{line_text}
use Rattle.task_script.proofs.writer.write_calls.Given as goal

abbrev pub invariant-loop-line : goal.invariant-loop-line
invariant-loop-line g l = record {
  text : IsOnItsWay (g.K.Sink.written l.fn.sink) (g.K.Sink.written l.sink) l.out (l.fn.out ++ flat_map (line_text l.script.objects) (take l.line-index l.lines));
  kept : g.K.Sink.faults l.sink ≡ g.K.Sink.faults l.fn.sink;
}
