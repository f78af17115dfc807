-- The calls from the number on are linked, and the first of them on each object is known.
use Rattle.std.proofs.Common.{◌≡◌, ℕ, ◌+◌, ◌<◌, ◌≤◌, length, get_or, Some}
use Rattle.std.specs.Prelude.{slice_get}
use Rattle.task_script.specs.declared.script.Line.{Line}
use Rattle.task_script.specs.Links.{IsFirstOn}
use Rattle.task_script.proofs.links.next_calls.Given as goal

abbrev pub invariant-loop-number : goal.invariant-loop-number
invariant-loop-number l = record {
  within : l.number ≤ length l.lines;
  each : length l.next.items ≡ length l.lines;
  objects : length l.first ≡ 32;
  first : (object : ℕ) → object < length l.first → IsFirstOn l.lines object l.number (get_or l.first object 0);
  linked : (n : ℕ) (line : Line) → l.number ≤ n → slice_get l.lines n ≡ Some line → IsFirstOn l.lines line.object (n + 1) (get_or l.next.items n 0);
}

abbrev pub decreases-loop-number : goal.decreases-loop-number
decreases-loop-number l = l.number
