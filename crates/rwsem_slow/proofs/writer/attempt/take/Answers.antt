use Rattle.std.proofs.Common.{ap, subst, arith}
use Rattle.lock_core.specs.Pasts.{FoundAt}
use Rattle.rwsem_slow.specs.RwSemOpening.{IsOpen}
use Rattle.rwsem_slow.specs.Types.{Slept, Alone}
use Rattle.rwsem_wake.specs.RwSemViews.{V, count_at}
use Rattle.rwsem_slow.proofs.Opening.{takes-from}
use Rattle.rwsem_slow.proofs.writer.attempt.take.Goals as goal

pub returns-then-found-old-clause-opened : goal.returns-then-found-old-clause-opened
returns-then-found-old-clause-opened g c = λ _. let view = (c.take-found.ensures.took c.if-found-old.true).3 in let steps = ap (λ (z : V). z.steps) view in let u = c.take-found.new.pass.seat.me.0 in
    takes-from Alone (IsOpen Slept) c.args.pass.now.seat.me.0.view u.view c.args.pass.now.seat.me.0.past u.past c.args.old (ap (λ (z : V). z.hand.task) view) (ap (λ (z : V). z.hand.held) view) (omega (arith, steps)) c.take-found.ensures.on.last c.take-found.ensures.on.goes_on
    (subst (λ n. FoundAt count_at n u.past) c.if-found-old.true c.take-found.ensures.found) c.requires.may.free
