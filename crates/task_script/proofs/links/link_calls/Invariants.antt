-- The calls of the tasks so far are linked.
use Rattle.std.proofs.Common.{◌≡◌, ◌<◌, ℕ, length, Some}
use Rattle.std.specs.Prelude.{slice_get}
use Rattle.std.specs.Global.{Vec}
use Rattle.task_script.specs.declared.script.Line.{Line}
use Rattle.task_script.specs.Links.{HasLinks}
use Rattle.task_script.proofs.links.link_calls.Given as goal

abbrev pub invariant-loop-lines : goal.invariant-loop-lines
invariant-loop-lines l = record {
  each : length l.links.items ≡ l.lines-index;
  linked : (task : ℕ) (lines : Vec Line) (next : Vec ℕ) → task < l.lines-index → slice_get l.tasks task ≡ Some lines → slice_get l.links.items task ≡ Some next → HasLinks lines.items next.items;
}
