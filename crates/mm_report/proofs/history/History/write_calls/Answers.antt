use Rattle.std.proofs.Common.{length, ◌≡◌, ◌<◌, ◌≤◌, ◌+◌, true, false, [], get_or, drop, refl, sym, ap, ◌∙◌, subst, arith}
use Rattle.std.specs.Prelude.{flat_map, count_by}
use Rattle.std.proofs.lemmas.Bool.{eq-eqb}
use Rattle.std.proofs.lemmas.Bool.Decides.{nat_tests}
use Rattle.std.proofs.lemmas.List.{take_all}
use Rattle.std.proofs.lemmas.List.Sums.{count_by_more_no, count_by_more_yes}
use Rattle.std.proofs.lemmas.Option.{none-some}
use Rattle.std.proofs.lemmas.Result.{err_from_is_err_and}
use Rattle.task_script.specs.Scripts.{is_on}
use Rattle.mm_report.specs.Text.{event_line, task_event_text}
use Rattle.mm_report.specs.Merged.{position, front, behind, NextFrom}
use Rattle.mm_report.specs.Cursors.{calls_before, events_of}
use Rattle.mm_report.proofs.Remaining.{Remains, remains_all, remains_added, remains_failed, remains_none}
use Rattle.mm_report.proofs.Calls.{front_text, record_read, next_read, no_more}
use Rattle.mm_report.proofs.Linked.{next_place}
use Rattle.mm_report.proofs.history.History.write_calls.Goals as goal

pub loop-number-init : goal.loop-number-init
loop-number-init g c =
    let o = g.O.Object.object in
    let f = task_event_text c.args.self.now.object c.args.calls.now.lines.now in record {
      rec = refl;
      text = λ first rs left has is.
          subst (λ us. Remains (g.K.Sink.written c.args.sink.now) (g.K.Sink.written c.args.sink.now) c.args.out.now c.args.out.now (flat_map f (front o c.args.bound us)) (flat_map f (front o c.args.bound left))) is.is
          (remains_all (g.K.Sink.written c.args.sink.now) c.args.out.now (flat_map f (front o c.args.bound left)));
      rest = λ first rs left has is. ap (behind o c.args.bound) (sym is.is);
      kept = refl;
    }

pub loop-number-preserved-then-line-self : goal.loop-number-preserved-then-line-self
loop-number-preserved-then-line-self g c =
    let o = g.O.Object.object in
    let n = c.loop-number.number in
    let lines = c.args.calls.now.lines.now in
    let inv = c.loop-number.invariant in
    let other = c.if-line-self.true in
    let fails : is_on c.args.self.now.object (get_or lines n (record { object = 0; words = [] })) ≡ false = grind (arith, nat_tests) in
    let same : calls_before c.args.self.now.object lines (n + 1) ≡ calls_before c.args.self.now.object lines n = count_by_more_no (is_on c.args.self.now.object) lines n (record { object = 0; words = [] }) c.loop-number-test.true fails in record {
      rec = inv.rec ∙ ap (λ k. c.args.cursor.now.rec + k) (sym same);
      text = λ first rs left has is.
          subst (λ k. Remains (g.K.Sink.written c.args.sink.now) (g.K.Sink.written c.loop-number.sink) c.args.out.now c.loop-number.out (flat_map (task_event_text c.args.self.now.object lines) (front o c.args.bound (drop k (events_of c.args.self.now.object c.args.task lines rs)))) (flat_map (task_event_text c.args.self.now.object lines) (front o c.args.bound left)))
          (sym same) (inv.text first rs left has is);
      rest = λ first rs left has is. ap (λ k. behind o c.args.bound (drop k (events_of c.args.self.now.object c.args.task lines rs))) same ∙ inv.rest first rs left has is;
      kept = inv.kept;
    }

pub returns-in_default-clause-text : goal.returns-in_default-clause-text
returns-in_default-clause-text g c = λ first rs left has is.
    let read = record_read g.O.Object.object c.args.self.now.object c.args.task c.loop-number.number c.loop-number.cursor.rec c.args.calls.now.lines.now rs c.args.self.now.recs.now first (record { object = 0; words = [] }) c.args.cursor.now left c.loop-number-test.true c.if-line-self.false has is c.loop-number.invariant.rec in
    absurd (none-some read.told (c.in_default.ensures.found read.told read.fit read.read))

pub returns-in_default-clause-reached : goal.returns-in_default-clause-reached
returns-in_default-clause-reached g c = λ first rs left has is.
    let read = record_read g.O.Object.object c.args.self.now.object c.args.task c.loop-number.number c.loop-number.cursor.rec c.args.calls.now.lines.now rs c.args.self.now.recs.now first (record { object = 0; words = [] }) c.args.cursor.now left c.loop-number-test.true c.if-line-self.false has is c.loop-number.invariant.rec in
    absurd (none-some read.told (c.in_default.ensures.found read.told read.fit read.read))

pub returns-then-position-bound-clause-text : goal.returns-then-position-bound-clause-text
returns-then-position-bound-clause-text g c = λ first rs left has is.
    let o = g.O.Object.object in
    let n = c.loop-number.number in
    let lines = c.args.calls.now.lines.now in
    let all = flat_map (task_event_text c.args.self.now.object lines) (front o c.args.bound left) in
    let next = next_read o c.args.self.now.object c.args.task c.args.bound c.loop-number.number c.loop-number.cursor.rec c.args.calls.now.lines.now rs c.args.self.now.recs.now first (record { object = 0; words = [] }) c.args.cursor.now left c.call-words.result c.in-Some.rec c.loop-number-test.true c.if-line-self.false has is c.loop-number.invariant.rec c.call-words.ensures c.in-Some.ensures.found in
    let stands = c.position-position.ensures in
    let high : c.args.bound ≤ position o c.call-words.result c.in-Some.rec = omega (arith, stands, c.if-position-bound.true) in
    remains_none (g.K.Sink.written c.args.sink.now) (g.K.Sink.written c.loop-number.sink) c.args.out.now c.loop-number.out all
    (subst (λ t. Remains (g.K.Sink.written c.args.sink.now) (g.K.Sink.written c.loop-number.sink) c.args.out.now c.loop-number.out t all) (next.none high) (c.loop-number.invariant.text first rs left has is))

pub returns-then-position-bound-clause-reached : goal.returns-then-position-bound-clause-reached
returns-then-position-bound-clause-reached g c = λ first rs left has is.
    let o = g.O.Object.object in
    let n = c.loop-number.number in
    let lines = c.args.calls.now.lines.now in
    let next = next_read o c.args.self.now.object c.args.task c.args.bound c.loop-number.number c.loop-number.cursor.rec c.args.calls.now.lines.now rs c.args.self.now.recs.now first (record { object = 0; words = [] }) c.args.cursor.now left c.call-words.result c.in-Some.rec c.loop-number-test.true c.if-line-self.false has is c.loop-number.invariant.rec c.call-words.ensures c.in-Some.ensures.found in
    let stands = c.position-position.ensures in
    let high : c.args.bound ≤ position o c.call-words.result c.in-Some.rec = omega (arith, stands, c.if-position-bound.true) in
    let left_is = sym (c.loop-number.invariant.rest first rs left has is) ∙ next.above high in
    let before = is.rec in record {
      rec = omega (arith, c.loop-number.invariant.rec);
      is = left_is;
      next = subst (NextFrom o c.position-position.result) (sym left_is) (subst (λ p. NextFrom o p (drop (calls_before c.args.self.now.object lines n) (events_of c.args.self.now.object c.args.task lines rs))) (sym stands) next.from);
    }

pub returns-in_err-write_event-clause-text : goal.returns-in_err-write_event-clause-text
returns-in_err-write_event-clause-text g c = rw (err_from_is_err_and c.from_residual.result c.from_residual.ensures.1).1 (λ first rs left has is.
    let o = g.O.Object.object in
    let n = c.loop-number.number in
    let lines = c.args.calls.now.lines.now in
    let all = flat_map (task_event_text c.args.self.now.object lines) (front o c.args.bound left) in
    let next = next_read o c.args.self.now.object c.args.task c.args.bound c.loop-number.number c.loop-number.cursor.rec c.args.calls.now.lines.now rs c.args.self.now.recs.now first (record { object = 0; words = [] }) c.args.cursor.now left c.call-words.result c.in-Some.rec c.loop-number-test.true c.if-line-self.false has is c.loop-number.invariant.rec c.call-words.ensures c.in-Some.ensures.found in
    let stands = c.position-position.ensures in
    let low : position o c.call-words.result c.in-Some.rec < c.args.bound = omega (arith, stands, c.if-position-bound.false) in
    remains_failed (g.K.Sink.written c.args.sink.now) (g.K.Sink.written c.loop-number.sink) (g.K.Sink.written c.write_event.new.sink) c.args.out.now c.loop-number.out (event_line c.args.task n c.call-words.result c.in-Some.rec.reply)
    (front_text o c.args.self.now.object c.args.task c.args.bound (n + 1) lines rs) all
    (subst (λ t. Remains (g.K.Sink.written c.args.sink.now) (g.K.Sink.written c.loop-number.sink) c.args.out.now c.loop-number.out t all) (next.text low) (c.loop-number.invariant.text first rs left has is))
    c.in_err-write_event.ensures.text)

pub loop-number-preserved : goal.loop-number-preserved
loop-number-preserved g c =
    let object = c.args.self.now.object in
    let n = c.loop-number.number in
    let lines = c.args.calls.now.lines.now in
    let link = next_place object lines c.args.calls.now.links.now n (record { object = 0; words = [] }) c.requires.linked c.loop-number-test.true c.if-line-self.false in record {
      rec =
          let passes : is_on object (get_or lines n (record { object = 0; words = [] })) ≡ true = eq-eqb (get_or lines n (record { object = 0; words = [] })).object object c.if-line-self.false in
          omega (arith, c.loop-number.invariant.rec, link.before, count_by_more_yes (is_on object) lines n (record { object = 0; words = [] }) c.loop-number-test.true passes);
      text = λ first rs left has is.
          let o = g.O.Object.object in
          let all = flat_map (task_event_text object lines) (front o c.args.bound left) in
          let next = next_read o object c.args.task c.args.bound n c.loop-number.cursor.rec lines rs c.args.self.now.recs.now first (record { object = 0; words = [] }) c.args.cursor.now left c.call-words.result c.in-Some.rec c.loop-number-test.true c.if-line-self.false has is c.loop-number.invariant.rec c.call-words.ensures c.in-Some.ensures.found in
          let stands = c.position-position.ensures in
          let low : position o c.call-words.result c.in-Some.rec < c.args.bound = omega (arith, stands, c.if-position-bound.false) in
          subst (λ k. Remains (g.K.Sink.written c.args.sink.now) (g.K.Sink.written c.write_event.new.sink) c.args.out.now c.write_event.new.out (flat_map (task_event_text object lines) (front o c.args.bound (drop k (events_of object c.args.task lines rs)))) all) (sym link.before)
          (remains_added (g.K.Sink.written c.args.sink.now) (g.K.Sink.written c.loop-number.sink) (g.K.Sink.written c.write_event.new.sink) c.args.out.now c.loop-number.out c.write_event.new.out (event_line c.args.task n c.call-words.result c.in-Some.rec.reply)
          (front_text o object c.args.task c.args.bound (n + 1) lines rs) all
          (subst (λ t. Remains (g.K.Sink.written c.args.sink.now) (g.K.Sink.written c.loop-number.sink) c.args.out.now c.loop-number.out t all) (next.text low) (c.loop-number.invariant.text first rs left has is))
          c.in_ok-write_event.ensures.text);
      rest = λ first rs left has is.
          let o = g.O.Object.object in
          let next = next_read o object c.args.task c.args.bound n c.loop-number.cursor.rec lines rs c.args.self.now.recs.now first (record { object = 0; words = [] }) c.args.cursor.now left c.call-words.result c.in-Some.rec c.loop-number-test.true c.if-line-self.false has is c.loop-number.invariant.rec c.call-words.ensures c.in-Some.ensures.found in
          let stands = c.position-position.ensures in
          let low : position o c.call-words.result c.in-Some.rec < c.args.bound = omega (arith, stands, c.if-position-bound.false) in
          ap (λ k. behind o c.args.bound (drop k (events_of object c.args.task lines rs))) link.before ∙ sym (next.below low) ∙ c.loop-number.invariant.rest first rs left has is;
      kept = c.in_ok-write_event.ensures.cause ∙ c.loop-number.invariant.kept;
    }

pub returns-clause-text : goal.returns-clause-text
returns-clause-text g c = λ first rs left has is.
    let o = g.O.Object.object in
    let all = flat_map (task_event_text c.args.self.now.object c.args.calls.now.lines.now) (front o c.args.bound left) in
    let none = no_more o c.args.self.now.object c.args.task c.args.bound c.loop-number.number c.args.calls.now.lines.now rs c.args.self.now.recs.now first c.loop-number-test.false has in
    remains_none (g.K.Sink.written c.args.sink.now) (g.K.Sink.written c.loop-number.sink) c.args.out.now c.loop-number.out all
    (subst (λ us. Remains (g.K.Sink.written c.args.sink.now) (g.K.Sink.written c.loop-number.sink) c.args.out.now c.loop-number.out (flat_map (task_event_text c.args.self.now.object c.args.calls.now.lines.now) (front o c.args.bound us)) all) none (c.loop-number.invariant.text first rs left has is))

pub returns-clause-reached : goal.returns-clause-reached
returns-clause-reached g c = λ first rs left has is.
    let o = g.O.Object.object in
    let n = c.loop-number.number in
    let lines = c.args.calls.now.lines.now in
    let none = no_more o c.args.self.now.object c.args.task c.args.bound n lines rs c.args.self.now.recs.now first c.loop-number-test.false has in
    let left_is = sym (c.loop-number.invariant.rest first rs left has is) ∙ ap (behind o c.args.bound) none in
    let same : calls_before c.args.self.now.object lines (length lines) ≡ calls_before c.args.self.now.object lines n =
    ap (count_by (is_on c.args.self.now.object)) (take_all (length lines) lines (omega arith) ∙ sym (take_all n lines c.loop-number-test.false)) in
    let before = is.rec in record {
      rec = omega (arith, c.loop-number.invariant.rec, same);
      is = left_is ∙ sym none ∙ ap (λ k. drop k (events_of c.args.self.now.object c.args.task lines rs)) (sym same);
      next = subst (NextFrom o 18446744073709551615) (sym left_is) tt;
    }
