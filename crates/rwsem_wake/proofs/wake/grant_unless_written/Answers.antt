use Rattle.std.proofs.Common.{◌∙◌, ℕ, ◌≤◌, true, false, sym, subst, ap, arith}
use Rattle.lock_core.specs.Records.{bit}
use Rattle.rwsem_wake.proofs.Flags.{flag-clear}
use Rattle.lock_core.specs.Pasts.{FoundAt}
use Rattle.rwsem_wake.specs.Grants.{MayReserve}
use Rattle.rwsem_wake.specs.RwSemViews.{V}
use Rattle.rwsem_wake.specs.Types.{ListHand, RwSemHand, SemHand}
use Rattle.rwsem_wake.proofs.Granting.{first-waits, or-false, saw-writer}
use Rattle.rwsem_wake.proofs.wake.grant_unless_written.Goals as goal

pub reserve-seen-requires-clause-may : goal.reserve-seen-requires-clause-may
reserve-seen-requires-clause-may g c = subst (λ (z : (RwSemHand → ListHand) × (RwSemHand → SemHand)). MayReserve z.0 z.1 c.args.pass.now.seat.me.0.view) (λ i. (sym g.met.H.WakeHost.list_parts.0 i, sym g.met.H.WakeHost.sem_parts.0 i)) (record { stage = c.requires.rests.stage; clear = c.requires.rests.clear; knows = c.requires.list.knows; waiting = first-waits c.args.pass.now.seat.me.0.view.ext.list.list c.args.first c.requires.first })

pub returns-then-has_writer-clause-saw : goal.returns-then-has_writer-clause-saw
returns-then-has_writer-clause-saw g c = let e = c.reserve-seen.ensures in let steps = ap (λ (z : V). z.steps) e.kept in let more = c.back_out.ensures.later in
    saw-writer true c.reserve-seen.result c.args.pass.now.seat.me.0.view c.reserve-seen.new.pass.seat.me.0.view c.back_out.new.pass.seat.me.0.view c.args.pass.now.seat.me.0.past c.reserve-seen.new.pass.seat.me.0.past c.back_out.new.pass.seat.me.0.past (c.has_writer.ensures.0 c.if-has_writer.true) (ap (λ (z : V). z.hand.task) e.kept) (omega (arith, steps)) (omega (arith, more)) e.on.last (subst (λ (place : ℕ). FoundAt place c.reserve-seen.result c.reserve-seen.new.pass.seat.me.0.past) g.met.H.WakeHost.places.0 e.found) e.on.goes_on (c.back_out.ensures.on.goes_on)

pub returns-clause-saw : goal.returns-clause-saw
returns-clause-saw g c = let e = c.reserve-seen.ensures in let steps = ap (λ (z : V). z.steps) e.kept in let hint = ap (λ (z : V). z.steps) c.set_hint.ensures.kept in let granted = c.grant.ensures.granted.beside.later in let more : c.reserve-seen.new.pass.seat.me.0.view.steps ≤ c.grant.new.pass.seat.me.0.view.steps = omega (arith, hint, granted) in
    saw-writer false c.reserve-seen.result c.args.pass.now.seat.me.0.view c.reserve-seen.new.pass.seat.me.0.view c.grant.new.pass.seat.me.0.view c.args.pass.now.seat.me.0.past c.reserve-seen.new.pass.seat.me.0.past c.grant.new.pass.seat.me.0.past (flag-clear c.has_writer.result c.reserve-seen.result c.has_writer.ensures c.if-has_writer.false) (ap (λ (z : V). z.hand.task) e.kept) (omega (arith, steps)) (omega (arith, more)) e.on.last (subst (λ (place : ℕ). FoundAt place c.reserve-seen.result c.reserve-seen.new.pass.seat.me.0.past) g.met.H.WakeHost.places.0 e.found) e.on.goes_on (λ p t. c.grant.ensures.on.goes_on p (c.set_hint.ensures.on.goes_on p t))

-- the answer alone decides whether it marks
pub returns-then-has_writer-clause-steps : goal.returns-then-has_writer-clause-steps
returns-then-has_writer-clause-steps g c = λ _ fresh. let s1 = ap (λ (z : V). z.steps) c.reserve-seen.ensures.kept in let s2 = c.back_out.ensures.steps in let said = ap bit (c.is_over-overdue.ensures.said ∙ or-false c.is_over-overdue.result (g.P.Patience.said c.args.patience.now) fresh) in omega (arith, s1, s2, said)
