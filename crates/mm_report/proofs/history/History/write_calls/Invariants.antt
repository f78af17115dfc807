use Rattle.std.proofs.Common.{◌≡◌, ◌+◌, ◌-◌, ℕ, List, length}
use Rattle.std.specs.Prelude.{flat_map}
use Rattle.word_bits.specs.Histories.{Event}
use Rattle.mm_report.specs.Text.{task_event_text}
use Rattle.mm_report.specs.Merged.{front, behind}
use Rattle.mm_report.specs.Cursors.{HasRecords, IsAt, calls_before}
use Rattle.mm_report.specs.Types.{Rec}
use Rattle.mm_report.proofs.Remaining.{Remains}
use Rattle.mm_report.proofs.Calls.{front_text, rest_behind}
use Rattle.mm_report.proofs.history.History.write_calls.Given as goal

abbrev pub invariant-loop-number : goal.invariant-loop-number
invariant-loop-number g l =
    let o = g.O.Object.object in record {
      rec : l.cursor.rec + calls_before l.self.object l.calls.lines.now l.fn.cursor.line ≡ l.fn.cursor.rec + calls_before l.self.object l.calls.lines.now l.number;
      text : (first : ℕ) (rs : List Rec) (left : List Event) → HasRecords l.self.object l.calls.lines.now l.self.recs.now first rs → IsAt o l.self.object l.task l.calls.lines.now first rs l.fn.cursor left →
          Remains (g.K.Sink.written l.fn.sink) (g.K.Sink.written l.sink) l.fn.out l.out (front_text o l.self.object l.task l.bound l.number l.calls.lines.now rs) (flat_map (task_event_text l.self.object l.calls.lines.now) (front o l.bound left));
      rest : (first : ℕ) (rs : List Rec) (left : List Event) → HasRecords l.self.object l.calls.lines.now l.self.recs.now first rs → IsAt o l.self.object l.task l.calls.lines.now first rs l.fn.cursor left →
          rest_behind o l.self.object l.task l.bound l.number l.calls.lines.now rs ≡ behind o l.bound left;
      kept : g.K.Sink.faults l.sink ≡ g.K.Sink.faults l.fn.sink;
    }

abbrev pub decreases-loop-number : goal.decreases-loop-number
decreases-loop-number g l = length l.calls.lines.now - l.number
