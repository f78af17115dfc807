use Rattle.std.proofs.Common.{◌≡◌, ◌++◌, ℕ, List, length, take, get_or, cond, nat_lt, Some}
use Rattle.std.specs.Prelude.{flat_map, slice_get}
use Rattle.word_bits.specs.Histories.{Records, Event}
use Rattle.byte_streams.specs.Causes.{IsOnItsWay}
use Rattle.mm_report.specs.Text.{event_text}
use Rattle.mm_report.specs.Merged.{front, behind}
use Rattle.mm_report.specs.Cursors.{AreRead, AreAt, IsAt, no_cursor, first_record}
use Rattle.mm_report.specs.Types.{Rec, Line}
use Rattle.mm_report.proofs.history.History.write_position.Given as goal

abbrev pub invariant-loop-task : goal.invariant-loop-task
invariant-loop-task g l =
    let o = g.O.Object.object in record {
      text : (records : Records) (lefts : List (List Event)) → AreRead l.self.script.now l.self.object l.self.recs.now records → length lefts ≡ length l.self.script.now.tasks → AreAt o l.self.script.now l.self.object records l.fn.cursors lefts →
          IsOnItsWay (g.K.Sink.written l.fn.sink) (g.K.Sink.written l.sink) l.out (l.fn.out ++ flat_map (λ left. flat_map (event_text l.self.script.now l.self.object) (front o l.bound left)) (take l.task lefts));
      at : (records : Records) (lefts : List (List Event)) → AreRead l.self.script.now l.self.object l.self.recs.now records → length lefts ≡ length l.self.script.now.tasks → AreAt o l.self.script.now l.self.object records l.fn.cursors lefts →
          (task : ℕ) (lines : List Line) (rs : List Rec) (left : List Event) → slice_get l.self.script.now.tasks task ≡ Some lines → slice_get records task ≡ Some rs → slice_get lefts task ≡ Some left
          → IsAt o l.self.object task lines (first_record l.self.script.now l.self.object task) rs (get_or l.cursors task no_cursor) (cond (nat_lt task l.task) (behind o l.bound left) left);
      all : length l.cursors ≡ length l.fn.cursors;
      kept : g.K.Sink.faults l.sink ≡ g.K.Sink.faults l.fn.sink;
    }
