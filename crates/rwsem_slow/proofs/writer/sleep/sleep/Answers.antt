use Rattle.std.proofs.Common.{◌∙◌, ap, arith, inl, refl}
use Rattle.rwsem_wake.specs.RwSemViews.{V}
use Rattle.rwsem_wake.specs.RwSemPlaces.{seen_of}
use Rattle.rwsem_slow.proofs.Quitting.{heard-on}
use Rattle.rwsem_slow.proofs.WaitStates.{writer-sleeps}
use Rattle.lock_core.proofs.Within.{pending-within}
use Rattle.rwsem_slow.proofs.writer.sleep.sleep.Goals as goal

pub doze-requires-clause-tried : goal.doze-requires-clause-tried
doze-requires-clause-tried g c = writer-sleeps c.args.pass.now.seat.me.0.view c.pending.new.pass.seat.me.0.view (ap (λ (z : V). z.ext) c.pending.ensures.listens ∙ ap (λ (z : V). z.ext) c.unlock.ensures.kept) c.requires.listed c.requires.tried

pub lock-requires-clause-told : goal.lock-requires-clause-told
lock-requires-clause-told g c = inl refl

pub lock-requires-2-clause-told : goal.lock-requires-2-clause-told
lock-requires-2-clause-told g c = inl refl

pub returns-in-Some-clause-heard : goal.returns-in-Some-clause-heard
returns-in-Some-clause-heard g c = heard-on c.in-Some.why c.pending.new.pass.seat.me.0.view.hand c.lock.new.pass.seat.me.0.view.hand c.lock.ensures.gained.hand c.in-Some.ensures.heard

pub returns-in-Some-clause-pending : goal.returns-in-Some-clause-pending
returns-in-Some-clause-pending g c = let steps = ap (λ (z : V). z.steps) c.unlock.ensures.kept in let took = c.lock.ensures.gained.took in let since = took.0 in let by_now = took.1 in
    pending-within (seen_of c.args.pass.now) (seen_of c.unlock.new.pass) (seen_of c.pending.new.pass) (seen_of c.lock.new.pass)
    (ap (λ (z : V). z.hand.task) c.unlock.ensures.kept) (omega (arith, steps)) c.unlock.ensures.on.goes_on c.in-Some.ensures.pending (omega (arith, since, by_now)) c.lock.ensures.on.goes_on
