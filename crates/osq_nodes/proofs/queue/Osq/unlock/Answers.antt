use Rattle.std.proofs.Common.{◌≢◌, ◌∙◌, ℕ, suc, inr, sym, ap, arith, subst, rules}
use Rattle.osq_nodes.specs.OsqRuled.{V}
use Rattle.osq_nodes.specs.Types.{Face}
use Rattle.osq_nodes.specs.Words.{tail_at}
use Rattle.lock_core.specs.Pasts.{GoesOn}
use Rattle.osq_nodes.proofs.Owning.{found-by, same-number}
use Rattle.osq_nodes.proofs.queue.Osq.unlock.Goals.{in-Some-take_next, in-None+in-Some-wait_next}
use Rattle.osq_nodes.proofs.queue.Osq.unlock.Goals as goal

pub returns-clause-on : goal.returns-clause-on
returns-clause-on g c = record {
  own = search rules;
  number = search rules;
  goes_on = let old = c.args.pass.now.pass.seat.me.0.past in let found : GoesOn old c.match-take_next.pass.pass.seat.me.0.past = elim c.match-take_next.branch [
    | in-Some-take_next w ↦ subst (λ x. GoesOn old x.pass.seat.me.0.past) (sym w.pass-is) (λ p t. c.take_next.ensures.on.goes_on p (c.leave_tail.ensures.on.goes_on p t))
    | in-None+in-Some-wait_next w ↦ subst (λ x. GoesOn old x.pass.seat.me.0.past) (sym w.pass-is) (λ p t. w.wait_next.ensures.on.goes_on p (c.take_next.ensures.on.goes_on p (c.leave_tail.ensures.on.goes_on p t)))
  ] in λ p t. c.grant.ensures.on.goes_on p (found p t);
  last = search rules;
}

pub returns-in-None-wait_next-clause-quick : goal.returns-in-None-wait_next-clause-quick
returns-in-None-wait_next-clause-quick g c = let past = c.leave_tail.new.pass.pass.seat.me.0.past in let saw = c.if-leave_tail.ensures.found in
    inr (saw.0, found-by c.args.pass.now.pass.face.task c.args.pass.now.pass.seat.me.0.view.steps tail_at saw.0 c.leave_tail.new.pass.pass.seat.me.0.view c.args.pass.now.pass.seat.me.0.past past _ (sym c.leave_tail.ensures.on.own.sits.task ∙ ap (λ (f : Face). f.task) c.leave_tail.ensures.on.number.0) (let a = ap (λ (v : V). v.steps) c.if-leave_tail.ensures.kept in omega (arith, a)) c.leave_tail.ensures.on.last saw.1 c.leave_tail.ensures.on.goes_on (λ p t. c.wait_next.ensures.on.goes_on p (c.take_next.ensures.on.goes_on p t)), λ t e. subst (λ (n : ℕ). saw.0 ≢ suc n) (sym (same-number c.args.pass.now.pass.face.task c.in-Some.task t (sym c.task.ensures ∙ c.in-Some.is) e)) saw.2)

pub returns-clause-quick : goal.returns-clause-quick
returns-clause-quick g c = let past = c.leave_tail.new.pass.pass.seat.me.0.past in let saw = c.if-leave_tail.ensures.found in let found : GoesOn past c.match-take_next.pass.pass.seat.me.0.past = elim c.match-take_next.branch [
  | in-Some-take_next w ↦ subst (λ x. GoesOn past x.pass.seat.me.0.past) (sym w.pass-is) c.take_next.ensures.on.goes_on
  | in-None+in-Some-wait_next w ↦ subst (λ x. GoesOn past x.pass.seat.me.0.past) (sym w.pass-is) (λ p t. w.wait_next.ensures.on.goes_on p (c.take_next.ensures.on.goes_on p t))
] in inr (saw.0, found-by c.args.pass.now.pass.face.task c.args.pass.now.pass.seat.me.0.view.steps tail_at saw.0 c.leave_tail.new.pass.pass.seat.me.0.view c.args.pass.now.pass.seat.me.0.past past _ (sym c.leave_tail.ensures.on.own.sits.task ∙ ap (λ (f : Face). f.task) c.leave_tail.ensures.on.number.0) (let a = ap (λ (v : V). v.steps) c.if-leave_tail.ensures.kept in omega (arith, a)) c.leave_tail.ensures.on.last saw.1 c.leave_tail.ensures.on.goes_on (λ p t. c.grant.ensures.on.goes_on p (found p t)), λ t e. subst (λ (n : ℕ). saw.0 ≢ suc n) (sym (same-number c.args.pass.now.pass.face.task c.in-Some.task t (sym c.task.ensures ∙ c.in-Some.is) e)) saw.2)
