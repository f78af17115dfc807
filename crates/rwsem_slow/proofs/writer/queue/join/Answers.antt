use Rattle.std.proofs.Common.{arith, true, ℕ, ◌+◌, ap, sym, refl, ◌∙◌, subst, Option}
use Rattle.rwsem_slow.specs.Types.{Waiter, SemHand}
use Rattle.wait_list.specs.Lists.{FindsFirst}
use Rattle.rwsem_wake.specs.RwSemViews.{list_of, with_list}
use Rattle.rwsem_slow.proofs.Joining.{writer-alone, writer-behind, writer-first}
use Rattle.lock_core.proofs.Within.{since-within}
use Rattle.wait_list.specs.Lists.{waiter_code}
use Rattle.lock_core.specs.Shown.{FindsSince}
use Rattle.rwsem_wake.specs.RwSemPlaces.{seen_of}
use Rattle.rwsem_wake.specs.RwSemViews.{V, list_at}
use Rattle.rwsem_slow.proofs.writer.queue.join.Goals as goal

pub append-requires-clause-task : goal.append-requires-clause-task
append-requires-clause-task g c = (c.requires.own.planned c.in-Some.task (sym c.task.ensures ∙ c.in-Some.is)).0

pub set_waiters-requires-clause-first : goal.set_waiters-requires-clause-first
set_waiters-requires-clause-first g c = ap (λ (s : SemHand). s.stage) (writer-first c.args.pass.now.seat.me.0.view c.append.new.pass.seat.me.0.view c.first.new.pass.seat.me.0.view (record { task = c.in-Some.task; writer = true }) c.in-Some-first.first c.requires.locked
    (let a = c.append.ensures.later in let b = c.first.ensures.later in omega (arith, a, b)) c.append.ensures.kept (subst (λ (r : Option Waiter). FindsFirst list_of with_list c.append.new.pass.seat.me.0.view r c.first.new.pass.seat.me.0.view) c.in-Some-first.is c.first.ensures.told) refl c.requires.outside.apart c.if-alone.true)

pub set_waiters-requires-clause-clear : goal.set_waiters-requires-clause-clear
set_waiters-requires-clause-clear g c = ap (λ (s : SemHand). s.bias) (writer-first c.args.pass.now.seat.me.0.view c.append.new.pass.seat.me.0.view c.first.new.pass.seat.me.0.view (record { task = c.in-Some.task; writer = true }) c.in-Some-first.first c.requires.locked
    (let a = c.append.ensures.later in let b = c.first.ensures.later in omega (arith, a, b)) c.append.ensures.kept (subst (λ (r : Option Waiter). FindsFirst list_of with_list c.append.new.pass.seat.me.0.view r c.first.new.pass.seat.me.0.view) c.in-Some-first.is c.first.ensures.told) refl c.requires.outside.apart c.if-alone.true)

pub returns-then-alone-clause-came : goal.returns-then-alone-clause-came
returns-then-alone-clause-came g c = writer-alone c.args.pass.now.seat.me.0.view c.append.new.pass.seat.me.0.view c.first.new.pass.seat.me.0.view (record { task = c.in-Some.task; writer = true }) c.in-Some-first.first c.requires.locked
    (let a = c.append.ensures.later in let b = c.first.ensures.later in omega (arith, a, b)) c.append.ensures.kept (subst (λ (r : Option Waiter). FindsFirst list_of with_list c.append.new.pass.seat.me.0.view r c.first.new.pass.seat.me.0.view) c.in-Some-first.is c.first.ensures.told) refl c.requires.outside.apart c.if-alone.true c.set_waiters.new.pass.seat.me.0.view c.set_waiters.ensures.kept

pub returns-else-alone-clause-came : goal.returns-else-alone-clause-came
returns-else-alone-clause-came g c = writer-behind c.args.pass.now.seat.me.0.view c.append.new.pass.seat.me.0.view c.first.new.pass.seat.me.0.view (record { task = c.in-Some.task; writer = true }) c.in-Some-first.first c.requires.locked
    (let a = c.append.ensures.later in let b = c.first.ensures.later in omega (arith, a, b)) c.append.ensures.kept (subst (λ (r : Option Waiter). FindsFirst list_of with_list c.append.new.pass.seat.me.0.view r c.first.new.pass.seat.me.0.view) c.in-Some-first.is c.first.ensures.told) refl c.requires.outside.apart c.if-alone.false

pub returns-then-alone-clause-goes_on : goal.returns-then-alone-clause-goes_on
returns-then-alone-clause-goes_on g c = λ p t. c.set_waiters.ensures.on.goes_on p (c.first.ensures.on.goes_on p (c.append.ensures.on.goes_on p t))

pub returns-else-alone-clause-goes_on : goal.returns-else-alone-clause-goes_on
returns-else-alone-clause-goes_on g c = λ p t. c.first.ensures.on.goes_on p (c.append.ensures.on.goes_on p t)

pub returns-then-alone-clause-first : goal.returns-then-alone-clause-first
returns-then-alone-clause-first g c = λ _. let later = c.append.ensures.later in let steps = ap (λ (z : V). z.steps) c.set_waiters.ensures.kept in (
  c.in-Some.task,
  sym c.requires.own.task ∙ (sym c.task.ensures ∙ c.in-Some.is),
  since-within (seen_of c.args.pass.now) (seen_of c.append.new.pass) (seen_of c.first.new.pass) (seen_of c.set_waiters.new.pass) (ap (λ (z : V). z.hand.task) c.append.ensures.kept.view) later c.append.ensures.on.goes_on
      (subst (λ (n : ℕ). FindsSince list_at n (seen_of c.append.new.pass) (seen_of c.first.new.pass)) (ap waiter_code c.in-Some-first.is ∙ ap (λ (n : ℕ). n + 1) c.if-alone.true) c.first.ensures.found) (omega (arith, steps)) c.set_waiters.ensures.on.goes_on,
)
