use Rattle.std.proofs.Common.{◌≡◌, ◌++◌, take}
use Rattle.std.specs.Prelude.{flat_map}
use Rattle.byte_streams.specs.Causes.{IsOnItsWay}
use Rattle.task_script.specs.Texts.{task_text}
use Rattle.task_script.proofs.writer.write_tasks.Given as goal

abbrev pub invariant-loop-task : goal.invariant-loop-task
invariant-loop-task g l = record {
  text : IsOnItsWay (g.K.Sink.written l.fn.sink) (g.K.Sink.written l.sink) l.out (l.fn.out ++ flat_map (task_text l.script.objects) (take l.task l.script.tasks));
  kept : g.K.Sink.faults l.sink ≡ g.K.Sink.faults l.fn.sink;
}
