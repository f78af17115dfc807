-- One more cursor is taken into account.
use Rattle.std.proofs.Common.{get_or, refl}
use Rattle.mm_report.specs.Cursors.{no_cursor, earliest}
use Rattle.mm_report.proofs.Earliest.{AreEarliest-more}
use Rattle.mm_report.proofs.cursor.second_position.Goals as goal

pub loop-cursor-preserved : goal.loop-cursor-preserved
loop-cursor-preserved c =
    rw (c.min-least.ensures, c.min-second.ensures, c.max.ensures, c.earliest-earliest.ensures) (AreEarliest-more c.args.cursors.now c.loop-cursor.cursor-index c.loop-cursor.least c.loop-cursor.second (earliest (get_or c.args.cursors.now c.loop-cursor.cursor-index no_cursor).position) refl c.loop-cursor.invariant)
