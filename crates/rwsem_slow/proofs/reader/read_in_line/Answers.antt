use Rattle.std.proofs.Common.{◌∙◌, ap, arith, inl, refl, subst, sym}
use Rattle.rwsem_slow.specs.Queued.{IsInTransit}
use Rattle.rwsem_slow.specs.Types.{Hand, RwSemHand, Reads}
use Rattle.rwsem_wake.specs.RwSemViews.{V}
use Rattle.rwsem_wake.specs.RwSemPlaces.{seen_of}
use Rattle.lock_core.proofs.Within.{pending-within}
use Rattle.rwsem_slow.proofs.Marking.{marked}
use Rattle.rwsem_slow.proofs.reader.read_in_line.Goals as goal

pub lock-requires-clause-told : goal.lock-requires-clause-told
lock-requires-clause-told g c = inl refl

pub settle-requires-clause-transit : goal.settle-requires-clause-transit
settle-requires-clause-transit g c = let t = c.requires.transit in subst (λ (e : RwSemHand). IsInTransit (record (c.lock.new.pass.seat.me.0.view) { ext = e })) (sym c.lock.ensures.gained.ext) record { transit = t.transit; still = t.still; done = t.done }

pub returns-clause-pending : goal.returns-clause-pending
returns-clause-pending g c = let unlock = c.unlock-2.ensures.kept in let sets = c.wake_tasks.ensures.set.is in let wakes = c.wake_tasks.ensures.set.later in let queues = c.queue.ensures.on.steps in let looks = c.in-Some.ensures.looked.later in let enters = c.lock.ensures.gained.took in let leaves = ap (λ (z : V). z.steps) unlock in
    pending-within (seen_of c.args.pass.now) (seen_of c.wake_tasks.new.pass) (seen_of c.wait.new.pass) (seen_of c.wait.new.pass)
    (ap (λ (z : V). z.hand.task) sets ∙ (ap (λ (z : V). z.hand.task) unlock ∙ (ap (λ (h : Hand). h.task) c.queue.ensures.hand ∙ (ap (λ (z : V). z.hand.task) c.in-Some.ensures.looked.is ∙ ap (λ (h : Hand). h.task) c.lock.ensures.gained.hand))))
    (omega (arith, wakes, leaves, queues, looks, enters.0, enters.1)) (λ p t. c.wake_tasks.ensures.goes_on p (c.unlock-2.ensures.on.goes_on p (c.queue.ensures.on.goes_on p (c.settle.ensures.goes_on p (c.lock.ensures.on.goes_on p t))))) c.in-Err.ensures.pending (omega arith) (λ p t. t)

pub wait-requires-clause-listed : goal.wait-requires-clause-listed
wait-requires-clause-listed g c = marked Reads _ _ c.queue.new.pass.seat.me.0.view c.unlock-2.new.pass.seat.me.0.view c.wake_tasks.new.pass.seat.me.0.view c.queue.ensures.listed (ap (λ (z : V). z.ext) c.unlock-2.ensures.kept) c.wake_tasks.ensures.set
