use Rattle.std.proofs.Common.{sym, ◌∙◌, subst, true, false, Some}
use Rattle.mutex_slow.specs.Mutexes.{turned}
use Rattle.mutex_word.specs.OwnerTries.{CameTo}
use Rattle.mutex_slow.proofs.Opening.{took-open}
use Rattle.mutex_slow.proofs.Showing.{failed-misses}
use Rattle.mutex_slow.proofs.fast.try_outside.Goals as goal

pub returns-in-Failed-clause-missed : goal.returns-in-Failed-clause-missed
returns-in-Failed-clause-missed g c = let came = subst (CameTo turned g.O.Object.object c.args.site.now.table.shared.key false true c.args.pass.now.seat.me.0.view c.attempt.new.pass.seat.me.0.view) c.in-Failed.is c.attempt.ensures.came in
    failed-misses c.args.pass.now.seat.me.0.view c.attempt.new.pass.seat.me.0.view c.args.pass.now.seat.me.0.past c.attempt.new.pass.seat.me.0.past c.in-Failed.word came.0 came.1 came.4 (sym c.requires.own.held ∙ c.requires.out) c.attempt.ensures.on.last (c.attempt.ensures.found c.in-Failed.word c.in-Failed.is) c.attempt.ensures.on.goes_on came.3.0.0 came.2.small

pub returns-in-Took-clause-opened : goal.returns-in-Took-clause-opened
returns-in-Took-clause-opened g c = let came = subst (CameTo turned g.O.Object.object c.args.site.now.table.shared.key false true c.args.pass.now.seat.me.0.view c.attempt.new.pass.seat.me.0.view) c.in-Took.is c.attempt.ensures.came in
    took-open g.O.Object.object c.args.site.now.table.shared.key false true c.args.pass.now.seat.me.0.view c.attempt.new.pass.seat.me.0.view c.args.pass.now.seat.me.0.past c.attempt.new.pass.seat.me.0.past (Some c.in-Some.me) (sym (sym c.task.ensures ∙ c.in-Some.is) ∙ c.requires.own.task) came c.attempt.ensures.on.last c.attempt.ensures.on.goes_on (c.attempt.ensures.opened c.in-Took.is)
