use Rattle.std.proofs.Common.{◌≡◌, ◌+◌, ◌==◌, ◌≤◌, true, length}
use Rattle.std.specs.List.{list_all}
use Rattle.std.specs.Option.{option_map_or}
use Rattle.task_script.specs.Cuts.{is_clean, lines}
use Rattle.task_script.specs.LineParts.{parts_of}
use Rattle.task_script.specs.Scripts.{nothing}
use Rattle.task_script.specs.Grammar.{lines_after}
use Rattle.task_script.proofs.reader.read_lines.Given as goal

abbrev pub invariant-loop-rest : goal.invariant-loop-rest
invariant-loop-rest l = record {
  goes_on : lines_after l.number l.draft (parts_of (λ b. b == 10) l.rest) ≡ lines_after 1 nothing (lines l.bytes);
  clean : l.clean ≡ true → list_all (list_all is_clean) (parts_of (λ b. b == 10) l.rest) ≡ true;
  counted : l.number + option_map_or (λ text. length text.now + 1) l.rest 0 ≤ 1048578;
}

abbrev pub decreases-loop-rest : goal.decreases-loop-rest
decreases-loop-rest l = option_map_or (λ text. length text.now + 1) l.rest 0
