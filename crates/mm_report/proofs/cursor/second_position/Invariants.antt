-- The two earliest positions so far.
use Rattle.mm_report.proofs.Earliest.{AreEarliest}
use Rattle.mm_report.proofs.cursor.second_position.Given as goal

abbrev pub invariant-loop-cursor : goal.invariant-loop-cursor
invariant-loop-cursor l = AreEarliest l.cursors l.cursor-index l.least l.second
