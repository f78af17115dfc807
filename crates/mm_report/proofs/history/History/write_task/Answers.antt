use Rattle.std.proofs.Common.{◌≤◌, ◌++◌, arith, subst, sym, ap, ◌∙◌, append-nil}
use Rattle.std.specs.Prelude.{flat_map, OnOk}
use Rattle.std.proofs.lemmas.Option.{same_Some}
use Rattle.byte_streams.specs.Causes.{Adds}
use Rattle.byte_streams.proofs.Pieces.{adds_waiting}
use Rattle.mm_report.specs.Text.{event_text}
use Rattle.mm_report.specs.Merged.{front, behind}
use Rattle.mm_report.specs.Cursors.{earliest, HasRecords, IsAt, first_record}
use Rattle.mm_report.proofs.Merging.{none_in_front, all_left}
use Rattle.mm_report.proofs.Calls.{left_text}
use Rattle.mm_report.proofs.history.History.write_task.Goals as goal

pub returns-then-earliest-bound-clause-text : goal.returns-then-earliest-bound-clause-text
returns-then-earliest-bound-clause-text g c = λ lines rs left at has is.
    let low : c.args.bound ≤ earliest c.args.cursor.now.position = omega (arith, c.earliest.ensures, c.if-earliest-bound.true) in
    let none = none_in_front g.O.Object.object c.args.bound (earliest c.args.cursor.now.position) left low is.next in
    adds_waiting (g.K.Sink.written c.args.sink.now) c.args.out.now c.args.out.now (flat_map (event_text c.args.self.now.script.now c.args.self.now.object) (front g.O.Object.object c.args.bound left))
    (sym (append-nil c.args.out.now) ∙ ap (λ us. c.args.out.now ++ flat_map (event_text c.args.self.now.script.now c.args.self.now.object) us) (sym none))

pub returns-then-earliest-bound-clause-reached : goal.returns-then-earliest-bound-clause-reached
returns-then-earliest-bound-clause-reached g c = λ lines rs left at has is.
    let task = c.args.task in
    let low : c.args.bound ≤ earliest c.args.cursor.now.position = omega (arith, c.earliest.ensures, c.if-earliest-bound.true) in
    subst (IsAt g.O.Object.object c.args.self.now.object task lines (first_record c.args.self.now.script.now c.args.self.now.object task) rs c.args.cursor.now) (sym (all_left g.O.Object.object c.args.bound (earliest c.args.cursor.now.position) left low is.next)) is

pub returns-clause-text : goal.returns-clause-text
returns-clause-text g c = λ lines rs left at has is.
    let o = g.O.Object.object in
    let first = first_record c.args.self.now.script.now c.args.self.now.object c.args.task in
    let own = same_Some lines c.calls_of-calls.result.lines.now (sym at ∙ c.calls_of-calls.ensures.calls) in
    let has_own = subst (λ ls. HasRecords c.args.self.now.object ls c.args.self.now.recs.now first rs) own has in
    let is_own = subst (λ ls. IsAt o c.args.self.now.object c.args.task ls first rs c.args.cursor.now left) own is in
    subst (λ t. Adds (g.K.Sink.written c.args.sink.now) (g.K.Sink.written c.write_calls.new.sink) c.args.out.now c.write_calls.new.out t c.write_calls.result)
    (left_text o c.args.self.now.script.now c.args.self.now.object c.args.task c.args.bound first c.calls_of-calls.result.lines.now rs c.args.cursor.now left c.calls_of-calls.ensures.calls is_own) (c.write_calls.ensures.text first rs left has_own is_own)

pub returns-clause-reached : goal.returns-clause-reached
returns-clause-reached g c = λ lines rs left at has is.
    let o = g.O.Object.object in
    let first = first_record c.args.self.now.script.now c.args.self.now.object c.args.task in
    let own = same_Some lines c.calls_of-calls.result.lines.now (sym at ∙ c.calls_of-calls.ensures.calls) in
    let has_own = subst (λ ls. HasRecords c.args.self.now.object ls c.args.self.now.recs.now first rs) own has in
    let is_own = subst (λ ls. IsAt o c.args.self.now.object c.args.task ls first rs c.args.cursor.now left) own is in
    subst (λ ls. OnOk c.write_calls.result (IsAt o c.args.self.now.object c.args.task ls first rs c.write_calls.new.cursor (behind o c.args.bound left))) (sym own) (c.write_calls.ensures.reached first rs left has_own is_own)
