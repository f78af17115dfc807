use Rattle.std.proofs.Common.{sym, ◌∙◌, subst, false, Some}
use Rattle.mutex_slow.specs.Mutexes.{turned}
use Rattle.mutex_word.specs.OwnerTries.{CameTo}
use Rattle.mutex_slow.proofs.Opening.{took-open}
use Rattle.mutex_slow.proofs.sleep.try_listed.Goals as goal

pub returns-in-Took-clause-opened : goal.returns-in-Took-clause-opened
returns-in-Took-clause-opened g c = λ _. let came = subst (CameTo turned g.O.Object.object c.args.site.now.table.shared.key c.args.asks false c.args.pass.now.seat.me.0.view c.attempt.new.pass.seat.me.0.view) c.in-Took.is c.attempt.ensures.came in
    took-open g.O.Object.object c.args.site.now.table.shared.key c.args.asks false c.args.pass.now.seat.me.0.view c.attempt.new.pass.seat.me.0.view c.args.pass.now.seat.me.0.past c.attempt.new.pass.seat.me.0.past (Some c.in-Some.me) (sym (sym c.task.ensures ∙ c.in-Some.is) ∙ c.requires.own.task) came c.attempt.ensures.on.last c.attempt.ensures.on.goes_on (c.attempt.ensures.opened c.in-Took.is)
