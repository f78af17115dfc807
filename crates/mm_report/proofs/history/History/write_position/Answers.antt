use Rattle.std.proofs.Common.{◌≡◌, ◌<◌, List, length, get_or, cond, nat_lt, true, false, Some, refl, sym, ◌∙◌, subst, arith}
use Rattle.std.specs.Prelude.{flat_map, slice_get}
use Rattle.std.proofs.lemmas.Bool.Decides.{nat_tests}
use Rattle.std.proofs.lemmas.List.{length-set}
use Rattle.std.proofs.lemmas.Option.{slice_get_within}
use Rattle.std.proofs.lemmas.Result.{err_from_is_err_and}
use Rattle.word_bits.specs.Histories.{Records, Event}
use Rattle.byte_streams.proofs.Pieces.{pieces_begin, piece_added, piece_failed, pieces_done}
use Rattle.mm_report.specs.Text.{event_text}
use Rattle.mm_report.specs.Merged.{front, behind}
use Rattle.mm_report.specs.Cursors.{AreRead, AreAt, IsAt, no_cursor, first_record}
use Rattle.mm_report.specs.Types.{Rec, Line}
use Rattle.task_script.proofs.Mapped.{at_place}
use Rattle.mm_report.proofs.Tasks.{task_read, task_has, one_further, text_of_texts}
use Rattle.mm_report.proofs.Reserved.{unmapped_at}
use Rattle.mm_report.proofs.history.History.write_position.Goals as goal

pub loop-task-init : goal.loop-task-init
loop-task-init g c =
    let o = g.O.Object.object in record {
      text = λ records lefts read each at. pieces_begin (λ left. flat_map (event_text c.args.self.now.script.now c.args.self.now.object) (front o c.args.bound left)) lefts (g.K.Sink.written c.args.sink.now) c.args.out.now;
      at = λ records lefts read each at task lines rs left at-lines at-rs at-left.
          let test : nat_lt task 0 ≡ false = grind (arith, nat_tests) in
          subst (λ b. IsAt o c.args.self.now.object task lines (first_record c.args.self.now.script.now c.args.self.now.object task) rs (get_or c.args.cursors.now task no_cursor) (cond b (behind o c.args.bound left) left)) (sym test) (at task lines rs left at-lines at-rs at-left);
      all = refl;
      kept = refl;
    }

pub returns-in_err-write_task-clause-text : goal.returns-in_err-write_task-clause-text
returns-in_err-write_task-clause-text g c = rw (err_from_is_err_and c.from_residual.result c.from_residual.ensures.1).1 (λ records lefts read each at.
    let o = g.O.Object.object in
    let s = c.args.self.now.script.now in
    let i = c.loop-task.task in
    let within : i < length s.tasks = omega (arith, c.tasks-task-end.ensures.count) in
    let lines = at_place s.tasks i within in
    let left = at_place lefts i (omega (arith, each)) in
    let rs = task_read s c.args.self.now.object i c.args.self.now.recs.now records lines.0 read lines.1 in
    let test : nat_lt i i ≡ false = grind (arith, nat_tests) in
    let here = subst (λ b. IsAt o c.args.self.now.object i lines.0 (first_record s c.args.self.now.object i) rs.told (get_or c.loop-task.cursors i no_cursor) (cond b (behind o c.args.bound left.0) left.0)) test (c.loop-task.invariant.at records lefts read each at i lines.0 rs.told left.0 lines.1 rs.at left.1) in
    rw (text_of_texts (event_text s c.args.self.now.object) (front o c.args.bound) lefts)
    (piece_failed (λ us. flat_map (event_text s c.args.self.now.object) (front o c.args.bound us)) lefts i left.0 (g.K.Sink.written c.args.sink.now) (g.K.Sink.written c.loop-task.sink) (g.K.Sink.written c.write_task.new.sink) c.args.out.now c.loop-task.out left.1
    (c.loop-task.invariant.text records lefts read each at) (c.in_err-write_task.ensures.text lines.0 rs.told left.0 lines.1 rs.has here)))

pub loop-task-preserved : goal.loop-task-preserved
loop-task-preserved g c =
    let o = g.O.Object.object in
    let s = c.args.self.now.script.now in
    let i = c.loop-task.task in
    let within : i < length s.tasks = omega (arith, c.tasks-task-end.ensures.count) in
    let room : i < length c.loop-task.cursors = omega (arith, c.loop-task.invariant.all, c.requires) in
    let test : nat_lt i i ≡ false = grind (arith, nat_tests) in
    let here = λ (records : Records) (lefts : List (List Event)) (read : AreRead s c.args.self.now.object c.args.self.now.recs.now records) (each : length lefts ≡ length s.tasks) (at : AreAt o s c.args.self.now.object records c.args.cursors.now lefts) (lines : List Line) (rs : List Rec) (left : List Event) (at-lines : slice_get s.tasks i ≡ Some lines) (at-rs : slice_get records i ≡ Some rs) (at-left : slice_get lefts i ≡ Some left).
    subst (λ b. IsAt o c.args.self.now.object i lines (first_record s c.args.self.now.object i) rs (get_or c.loop-task.cursors i no_cursor) (cond b (behind o c.args.bound left) left)) test (c.loop-task.invariant.at records lefts read each at i lines rs left at-lines at-rs at-left) in record {
      text = λ records lefts read each at.
          let lines = at_place s.tasks i within in
          let left = at_place lefts i (omega (arith, each)) in
          let rs = task_read s c.args.self.now.object i c.args.self.now.recs.now records lines.0 read lines.1 in
          piece_added (λ us. flat_map (event_text s c.args.self.now.object) (front o c.args.bound us)) lefts i left.0 (g.K.Sink.written c.args.sink.now) (g.K.Sink.written c.loop-task.sink) (g.K.Sink.written c.write_task.new.sink) c.args.out.now c.loop-task.out c.write_task.new.out left.1
          (c.loop-task.invariant.text records lefts read each at) (c.in_ok-write_task.ensures.text lines.0 rs.told left.0 lines.1 rs.has (here records lefts read each at lines.0 rs.told left.0 lines.1 rs.at left.1));
      at = λ records lefts read each at task lines rs left at-lines at-rs at-left.
          one_further o s c.args.self.now.object c.args.bound i c.loop-task.cursors c.write_task.new.cursor task lines rs left room (c.loop-task.invariant.at records lefts read each at task lines rs left at-lines at-rs at-left) (λ same.
          let lines_here = subst (λ t. slice_get s.tasks t ≡ Some lines) same at-lines in
          let rs_here = subst (λ t. slice_get records t ≡ Some rs) same at-rs in
          let left_here = subst (λ t. slice_get lefts t ≡ Some left) same at-left in
          subst (λ t. IsAt o c.args.self.now.object t lines (first_record s c.args.self.now.object t) rs c.write_task.new.cursor (behind o c.args.bound left)) (sym same)
          (c.in_ok-write_task.ensures.reached lines rs left lines_here (task_has s c.args.self.now.object i c.args.self.now.recs.now records lines rs read lines_here rs_here) (here records lefts read each at lines rs left lines_here rs_here left_here)));
      all = length-set c.loop-task.cursors i _ ∙ c.loop-task.invariant.all;
      kept = c.in_ok-write_task.ensures.cause ∙ c.loop-task.invariant.kept;
    }

pub returns-clause-text : goal.returns-clause-text
returns-clause-text g c = λ records lefts read each at.
    let o = g.O.Object.object in
    let s = c.args.self.now.script.now in
    rw (text_of_texts (event_text s c.args.self.now.object) (front o c.args.bound) lefts)
    (pieces_done (λ us. flat_map (event_text s c.args.self.now.object) (front o c.args.bound us)) lefts c.loop-task.task (g.K.Sink.written c.args.sink.now) (g.K.Sink.written c.loop-task.sink) c.args.out.now c.loop-task.out
    (omega (arith, each, c.tasks-task-end.ensures.count)) (c.loop-task.invariant.text records lefts read each at))

pub returns-clause-reached : goal.returns-clause-reached
returns-clause-reached g c = λ records lefts read each at task lines rs left at-lines at-rs at-left.
    let o = g.O.Object.object in
    let s = c.args.self.now.script.now in
    let was = unmapped_at (behind o c.args.bound) lefts task left at-left in
    let test : nat_lt task c.loop-task.task ≡ true = grind (arith, nat_tests, slice_get_within s.tasks task lines at-lines, c.tasks-task-end.ensures.count) in
    subst (IsAt o c.args.self.now.object task lines (first_record s c.args.self.now.object task) rs (get_or c.loop-task.cursors task no_cursor)) was.2
    (subst (λ b. IsAt o c.args.self.now.object task lines (first_record s c.args.self.now.object task) rs (get_or c.loop-task.cursors task no_cursor) (cond b (behind o c.args.bound was.0) was.0)) test
    (c.loop-task.invariant.at records lefts read each at task lines rs was.0 at-lines at-rs was.1))
