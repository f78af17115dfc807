use Rattle.std.proofs.Common.{◌≡◌, ◌+◌, true, drop}
use Rattle.std.specs.List.{list_all, position_or_len}
use Rattle.task_script.specs.Cuts.{is_blank, is_plain}
use Rattle.task_script.proofs.cut.first_blank.Given as goal

abbrev pub invariant-loop-place : goal.invariant-loop-place
invariant-loop-place l = record {
  first : l.place + position_or_len is_blank (drop l.place l.bytes) ≡ position_or_len is_blank l.bytes;
  plain : list_all is_plain (drop l.place l.bytes) ≡ true;
}
