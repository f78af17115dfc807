use Rattle.std.proofs.Common.{◌≡◌, ◌&&◌, drop}
use Rattle.std.specs.List.{list_all}
use Rattle.task_script.specs.Cuts.{is_clean_or_feed}
use Rattle.task_script.proofs.cut.is_clean_text.Given as goal

abbrev pub invariant-loop-byte : goal.invariant-loop-byte
invariant-loop-byte l = (l.clean && list_all is_clean_or_feed (drop l.byte-index l.text)) ≡ list_all is_clean_or_feed l.text
