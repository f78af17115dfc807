use Rattle.std.proofs.Common.{◌∙◌, ap, arith, false, refl, sym}
use Rattle.lock_core.specs.Laws.SiteRun.{found-at-step}
use Rattle.rwsem_wake.specs.RwSemViews.{V, count_at}
use Rattle.rwsem_slow.proofs.ReaderSteps.{joins-bias, joins-reader}
use Rattle.lock_core.proofs.Sitting.{its-number}
use Rattle.rwsem_slow.proofs.reader.queue.join.Goals as goal

pub arm-requires-clause-task : goal.arm-requires-clause-task
arm-requires-clause-task g c = (c.requires.own.planned c.in-Some.task (sym c.task.ensures ∙ c.in-Some.is)).0

pub append-requires-clause-task : goal.append-requires-clause-task
append-requires-clause-task g c = (c.requires.own.planned c.in-Some.task (sym c.task.ensures ∙ c.in-Some.is)).0

pub take_back-requires-clause-transit : goal.take_back-requires-clause-transit
take_back-requires-clause-transit g c = joins-bias c.args.pass.now.seat.me.0.view c.arm.new.pass.seat.me.0.view c.append.new.pass.seat.me.0.view c.append.new.pass.seat.me.0.view (record { task = c.in-Some.task; writer = false }) refl
    (its-number c.args.site.now.small c.requires.own c.in-Some.task (sym c.task.ensures ∙ c.in-Some.is)) c.requires.transit c.arm.ensures.kept c.append.ensures.kept

pub returns-clause-came : goal.returns-clause-came
returns-clause-came g c = joins-reader c.args.pass.now.seat.me.0.view c.arm.new.pass.seat.me.0.view c.append.new.pass.seat.me.0.view c.take_back.new.pass.seat.me.0.view (record { task = c.in-Some.task; writer = false }) refl
    (its-number c.args.site.now.small c.requires.own c.in-Some.task (sym c.task.ensures ∙ c.in-Some.is)) c.requires.transit c.arm.ensures.kept c.append.ensures.kept c.requires.locked c.append.ensures.later c.take_back.result c.take_back.ensures.kept

pub take_back-requires-clause-clear : goal.take_back-requires-clause-clear
take_back-requires-clause-clear g c = ap (λ (z : V). z.ext.wake.owing) c.append.ensures.kept.view ∙ (ap (λ (z : V). z.ext.wake.owing) c.arm.ensures.kept ∙ c.requires.transit.done.clear)

pub returns-clause-back : goal.returns-clause-back
returns-clause-back g c = let arms = ap (λ (z : V). z.steps) c.arm.ensures.kept in let appends = c.append.ensures.later in let backs = ap (λ (z : V). z.steps) c.take_back.ensures.kept in let left = c.take_back.ensures.left in let v = c.args.pass.now.seat.me.0 in let b = c.take_back.new.pass.seat.me.0 in
    (omega (arith, arms, appends, backs), omega arith, left.0, found-at-step b.view v.view.hand.task count_at left.0 v.past b.past b.past (ap (λ (z : V). z.hand.task) c.take_back.ensures.kept ∙ (ap (λ (z : V). z.hand.task) c.append.ensures.kept.view ∙ ap (λ (z : V). z.hand.task) c.arm.ensures.kept)) c.take_back.ensures.on.last left.1 (λ p t. c.take_back.ensures.on.goes_on p (c.append.ensures.on.goes_on p (c.arm.ensures.on.goes_on p t))) (λ p t. t), left.3)
