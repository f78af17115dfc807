use Rattle.std.proofs.Common.{◌≡◌, ◌+◌, ◌*◌, ◌⊎◌, length, take, sym, ap, ◌∙◌, subst, arith, refl}
use Rattle.std.proofs.lemmas.Result.{err_from_is_err_and}
use Rattle.mm_report.specs.Cursors.{AreRead, IsOneBelow}
use Rattle.mm_report.proofs.Tasks.{history_begins, history_added, history_failed, history_done, can_tell}
use Rattle.mm_report.proofs.history.write_history.Goals as goal

pub loop-position-init : goal.loop-position-init
loop-position-init g c = record {
  text = λ records read.
      history_begins g.O.Object.object c.args.script.now c.args.object c.args.snapshot.now.recs records (length c.log.result.now * 2 + 1) c.first_cursors-cursors.result (g.K.Sink.written c.args.sink.now) c.args.out.now read c.first_cursors-cursors.ensures.starts;
  all = c.first_cursors-cursors.ensures.all;
  kept = refl;
}

pub returns-in_err-write_position-clause-text : goal.returns-in_err-write_position-clause-text
returns-in_err-write_position-clause-text g c = rw (err_from_is_err_and c.from_residual.result c.from_residual.ensures.1).1 (λ records read.
    let h = c.loop-position.invariant.text records read in
    let own = subst (λ recs. AreRead c.args.script.now c.args.object recs records) (sym c.recs-recs.ensures) read in
    let can = can_tell g.O.Object.object c.args.script.now c.args.object c.args.snapshot.now.recs records c.loop-position.cursors h.lefts c.loop-position.position c.next_bound-bound.result read h.each h.at (omega (arith, c.first_cursors-cursors.ensures.room, c.loop-position.invariant.all)) (subst (λ n. (c.next_bound-bound.result ≡ c.loop-position.position + 1) ⊎ IsOneBelow c.next_bound-bound.result (take n c.loop-position.cursors)) c.tasks-tasks.ensures.count c.next_bound-bound.ensures.alone) in
    rw (ap (λ log. length log * 2 + 1) (sym c.log.ensures)) (history_failed g.O.Object.object c.args.script.now c.args.object records (length c.log.result.now * 2 + 1) c.loop-position.position c.next_bound-bound.result c.loop-position.cursors (g.K.Sink.written c.args.sink.now) (g.K.Sink.written c.loop-position.sink) (g.K.Sink.written c.write_position.new.sink)
    c.args.out.now c.loop-position.out h c.next_bound-bound.ensures.further c.next_bound-bound.ensures.within can (c.in_err-write_position.ensures.text records h.lefts own h.each h.at)))

pub loop-position-preserved : goal.loop-position-preserved
loop-position-preserved g c = record {
  text = λ records read.
      let h = c.loop-position.invariant.text records read in
      let own = subst (λ recs. AreRead c.args.script.now c.args.object recs records) (sym c.recs-recs.ensures) read in
      let can = can_tell g.O.Object.object c.args.script.now c.args.object c.args.snapshot.now.recs records c.loop-position.cursors h.lefts c.loop-position.position c.next_bound-bound.result read h.each h.at (omega (arith, c.first_cursors-cursors.ensures.room, c.loop-position.invariant.all)) (subst (λ n. (c.next_bound-bound.result ≡ c.loop-position.position + 1) ⊎ IsOneBelow c.next_bound-bound.result (take n c.loop-position.cursors)) c.tasks-tasks.ensures.count c.next_bound-bound.ensures.alone) in
      history_added g.O.Object.object c.args.script.now c.args.object records (length c.log.result.now * 2 + 1) c.loop-position.position c.next_bound-bound.result c.loop-position.cursors (g.K.Sink.written c.args.sink.now) (g.K.Sink.written c.loop-position.sink)
      (g.K.Sink.written c.write_position.new.sink) c.args.out.now c.loop-position.out h c.next_bound-bound.ensures.further c.next_bound-bound.ensures.within can c.write_position.new.cursors c.write_position.new.out (c.in_ok-write_position.ensures.text records h.lefts own h.each h.at)
      (c.in_ok-write_position.ensures.reached records h.lefts own h.each h.at);
  all = c.in_ok-write_position.ensures.kept ∙ c.loop-position.invariant.all;
  kept = c.in_ok-write_position.ensures.cause ∙ c.loop-position.invariant.kept;
}

pub returns-clause-text : goal.returns-clause-text
returns-clause-text g c = λ records read.
    rw (ap (λ log. length log * 2 + 1) (sym c.log.ensures)) (history_done g.O.Object.object c.args.script.now c.args.object records (length c.log.result.now * 2 + 1) c.loop-position.position c.loop-position.cursors (g.K.Sink.written c.args.sink.now) (g.K.Sink.written c.loop-position.sink) c.args.out.now c.loop-position.out
    (c.loop-position.invariant.text records read) c.loop-position-test.false)
