use Rattle.std.proofs.Common.{rules, sym, subst}
use Rattle.lock_core.specs.Pasts.{GoesOn}
use Rattle.osq_nodes.proofs.queue.Osq.wait_next.Goals.{else-is_last-via-then-is_last+else-leave_tail, else-is_last-via-else-is_last, then-has_next+in_default, else-has_next}
use Rattle.osq_nodes.proofs.queue.Osq.wait_next.Goals as goal

pub returns-in-Some-take_next-clause-on : goal.returns-in-Some-take_next-clause-on
returns-in-Some-take_next-clause-on g c = record {
  own = search rules;
  number = search rules;
  goes_on = let old = c.args.pass.now.pass.seat.me.0.past in let looked : GoesOn old c.else-is_last.pass.pass.seat.me.0.past = elim c.else-is_last.branch [
    | else-is_last-via-then-is_last+else-leave_tail w ↦ subst (λ x. GoesOn old x.pass.seat.me.0.past) (sym w.pass-is) (λ p t. w.leave_tail.ensures.on.goes_on p (c.is_last.ensures.on.goes_on p (c.loop.invariant.7 p t)))
    | else-is_last-via-else-is_last w ↦ subst (λ x. GoesOn old x.pass.seat.me.0.past) (sym w.pass-is) (λ p t. c.is_last.ensures.on.goes_on p (c.loop.invariant.7 p t))
  ] in λ p t. c.take_next.ensures.on.goes_on p (c.has_next.ensures.on.goes_on p (looked p t));
  last = search rules;
}

pub loop-preserved : goal.loop-preserved
loop-preserved g c = let old = c.args.pass.now.pass.seat.me.0.past in let looked : GoesOn old c.else-is_last.pass.pass.seat.me.0.past = elim c.else-is_last.branch [
  | else-is_last-via-then-is_last+else-leave_tail w ↦ subst (λ x. GoesOn old x.pass.seat.me.0.past) (sym w.pass-is) (λ p t. w.leave_tail.ensures.on.goes_on p (c.is_last.ensures.on.goes_on p (c.loop.invariant.7 p t)))
  | else-is_last-via-else-is_last w ↦ subst (λ x. GoesOn old x.pass.seat.me.0.past) (sym w.pass-is) (λ p t. c.is_last.ensures.on.goes_on p (c.loop.invariant.7 p t))
] in let swapped : GoesOn old c.if-has_next.pass.pass.seat.me.0.past = elim c.if-has_next.branch [
  | then-has_next+in_default w ↦ subst (λ x. GoesOn old x.pass.seat.me.0.past) (sym w.pass-is) (λ p t. w.take_next.ensures.on.goes_on p (c.has_next.ensures.on.goes_on p (looked p t)))
  | else-has_next w ↦ subst (λ x. GoesOn old x.pass.seat.me.0.past) (sym w.pass-is) (λ p t. c.has_next.ensures.on.goes_on p (looked p t))
] in (tt, tt, search rules, search rules, search rules, search rules, search rules, swapped)
