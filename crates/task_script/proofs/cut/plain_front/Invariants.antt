use Rattle.std.proofs.Common.{◌≡◌, ◌++◌, true, take, drop}
use Rattle.std.specs.List.{list_all}
use Rattle.task_script.specs.Cuts.{is_plain, uncommented}
use Rattle.task_script.proofs.cut.plain_front.Given as goal

abbrev pub invariant-loop-place : goal.invariant-loop-place
invariant-loop-place l = record {
  front : uncommented l.line ≡ take l.place l.line ++ uncommented (drop l.place l.line);
  plain : list_all is_plain (take l.place l.line) ≡ true;
}
