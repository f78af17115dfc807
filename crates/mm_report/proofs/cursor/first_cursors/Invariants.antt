use Rattle.std.proofs.Common.{◌≡◌, ◌<◌, ◌≤◌, ℕ, length, get_or, Some}
use Rattle.mm_report.specs.Cursors.{at_start, first_record, no_cursor}
use Rattle.mm_report.proofs.cursor.first_cursors.Given as goal

abbrev pub invariant-loop-task : goal.invariant-loop-task
invariant-loop-task l = record {
  rec : l.rec ≡ first_record l.script l.object l.task;
  all : length l.cursors ≡ 400;
  set : (task : ℕ) → task < l.task → get_or l.cursors task no_cursor ≡ record { line = 0; rec = first_record l.script l.object task; position = Some 0 };
  unset : (task : ℕ) → l.task ≤ task → task < 400 → get_or l.cursors task no_cursor ≡ at_start;
}
