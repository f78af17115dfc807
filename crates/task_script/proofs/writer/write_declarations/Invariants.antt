use Rattle.std.proofs.Common.{◌≡◌, ◌++◌, take}
use Rattle.std.specs.Prelude.{flat_map}
use Rattle.byte_streams.specs.Causes.{IsOnItsWay}
use Rattle.task_script.specs.Texts.{declaration_text}
use Rattle.task_script.proofs.writer.write_declarations.Given as goal

abbrev pub invariant-loop-object : goal.invariant-loop-object
invariant-loop-object g l = record {
  text : IsOnItsWay (g.K.Sink.written l.fn.sink) (g.K.Sink.written l.sink) l.out (l.fn.out ++ flat_map declaration_text (take l.object l.script.objects));
  kept : g.K.Sink.faults l.sink ≡ g.K.Sink.faults l.fn.sink;
}
