use Rattle.std.proofs.Common.{arith, subst, ap, sym, ◌∙◌, Option, true}
use Rattle.mutex_word.specs.Laws.OwnKinds.{or-one}
use Rattle.wait_list.specs.Lists.{FindsFirst}
use Rattle.mutex_slow.specs.Mutexes.{V, list_of, with_list}
use Rattle.mutex_slow.specs.Types.{Face, Waiter}
use Rattle.mutex_slow.proofs.Queueing.{point-joins, flagged-listed, behind-listed}
use Rattle.mutex_slow.proofs.queue.join.Goals as goal

pub append-requires-clause-task : goal.append-requires-clause-task
append-requires-clause-task g c = (c.requires.own.planned c.in-Some.task (sym c.task.ensures ∙ c.in-Some.is)).0

pub set_waiters-requires-clause-may : goal.set_waiters-requires-clause-may
set_waiters-requires-clause-may g c = λ n. (
  point-joins c.args.pass.now.seat.me.0.view c.append.new.pass.seat.me.0.view c.first.new.pass.seat.me.0.view (record { task = c.in-Some.task; writer = true }) c.in-Some-first.first c.requires.locked c.append.ensures.kept (subst (λ (r : Option Waiter). FindsFirst list_of with_list c.append.new.pass.seat.me.0.view r c.first.new.pass.seat.me.0.view) c.in-Some-first.is c.first.ensures.told) c.if-first-task.true,
  λ even. or-one n even,
)

pub returns-then-first-task-clause-listed : goal.returns-then-first-task-clause-listed
returns-then-first-task-clause-listed g c = flagged-listed c.args.pass.now.seat.me.0.view c.append.new.pass.seat.me.0.view c.first.new.pass.seat.me.0.view (record { task = c.in-Some.task; writer = true }) c.in-Some-first.first c.requires.locked c.append.ensures.kept (subst (λ (r : Option Waiter). FindsFirst list_of with_list c.append.new.pass.seat.me.0.view r c.first.new.pass.seat.me.0.view) c.in-Some-first.is c.first.ensures.told) c.set_waiters.new.pass.seat.me.0.view c.requires.clear c.set_waiters.ensures.kept

pub returns-else-first-task-clause-listed : goal.returns-else-first-task-clause-listed
returns-else-first-task-clause-listed g c = behind-listed c.args.pass.now.seat.me.0.view c.append.new.pass.seat.me.0.view c.first.new.pass.seat.me.0.view (record { task = c.in-Some.task; writer = true }) c.in-Some-first.first c.requires.locked c.append.ensures.kept (subst (λ (r : Option Waiter). FindsFirst list_of with_list c.append.new.pass.seat.me.0.view r c.first.new.pass.seat.me.0.view) c.in-Some-first.is c.first.ensures.told) c.requires.clear c.if-first-task.false

pub returns-then-first-task-clause-on : goal.returns-then-first-task-clause-on
returns-then-first-task-clause-on g c = let append = c.append.ensures.later in let first = c.first.ensures.later in let set = ap (λ (v : V). v.steps) c.set_waiters.ensures.kept in record {
  own = c.set_waiters.ensures.on.own;
  task = ap (λ (f : Face). f.task) (c.set_waiters.ensures.face ∙ (c.first.ensures.face ∙ c.append.ensures.face));
  goes_on = λ p t. c.set_waiters.ensures.on.goes_on p (c.first.ensures.on.goes_on p (c.append.ensures.on.goes_on p t));
  steps = omega (arith, append, first, set);
}

pub returns-else-first-task-clause-on : goal.returns-else-first-task-clause-on
returns-else-first-task-clause-on g c = let append = c.append.ensures.later in let first = c.first.ensures.later in record {
  own = c.first.ensures.on.own;
  task = ap (λ (f : Face). f.task) (c.first.ensures.face ∙ c.append.ensures.face);
  goes_on = λ p t. c.first.ensures.on.goes_on p (c.append.ensures.on.goes_on p t);
  steps = omega (arith, append, first);
}
