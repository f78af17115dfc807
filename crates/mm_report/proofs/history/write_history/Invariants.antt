use Rattle.std.proofs.Common.{◌≡◌, ◌-◌, length}
use Rattle.word_bits.specs.Histories.{Records}
use Rattle.mm_report.specs.Cursors.{AreRead}
use Rattle.mm_report.proofs.Tasks.{HistoryLeft}
use Rattle.mm_report.proofs.history.write_history.Given as goal

abbrev pub invariant-loop-position : goal.invariant-loop-position
invariant-loop-position g l = record {
  text : (records : Records) → AreRead l.script l.object l.snapshot.recs records →
      HistoryLeft g.O.Object.object l.script l.object records l.end l.position l.cursors (g.K.Sink.written l.fn.sink) (g.K.Sink.written l.sink) l.fn.out l.out;
  all : length l.cursors ≡ 400;
  kept : g.K.Sink.faults l.sink ≡ g.K.Sink.faults l.fn.sink;
}

abbrev pub decreases-loop-position : goal.decreases-loop-position
decreases-loop-position g l = l.end - l.position
