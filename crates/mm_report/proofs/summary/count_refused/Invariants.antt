use Rattle.std.proofs.Common.{◌≡◌, ◌≤◌, List, map, take}
use Rattle.std.specs.Prelude.{count_by}
use Rattle.std.specs.List.{AllByRecursion}
use Rattle.word_bits.specs.RecWord.{IsRec, rec_word}
use Rattle.mm_report.specs.Summary.{is_refused}
use Rattle.mm_report.specs.Types.{Rec}
use Rattle.mm_report.proofs.summary.count_refused.Given as goal

abbrev pub invariant-loop-word : goal.invariant-loop-word
invariant-loop-word l = record {
  few : l.refused ≤ l.word-index;
  counted : (records : List Rec) → AllByRecursion IsRec records → l.recs ≡ map rec_word records → l.refused ≡ count_by is_refused (take l.word-index records);
}
