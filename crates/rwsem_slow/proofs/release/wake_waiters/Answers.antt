use Rattle.std.proofs.Common.{◌∙◌, arith, ap, inl, length, refl, sym}
use Rattle.cpu_task.specs.CpuCounting.{slept}
use Rattle.rwsem_slow.specs.Types.{Hand, SemWake, RwSemHand}
use Rattle.rwsem_wake.specs.RwSemPlaces.{seen_of}
use Rattle.rwsem_wake.specs.RwSemViews.{V}
use Rattle.rwsem_wake.specs.RwSemWakes.{woken_tasks}
use Rattle.rwsem_slow.proofs.Woken.{wakes-within}
use Rattle.rwsem_slow.proofs.release.wake_waiters.Goals as goal

pub lock-requires-clause-told : goal.lock-requires-clause-told
lock-requires-clause-told g c = inl refl

-- those that the wake has chosen have their words set
pub returns-clause-woken : goal.returns-clause-woken
returns-clause-woken g c = let w = c.wake.ensures.wakes in let took = c.lock.ensures.gained.took in let since = took.0 in let by_now = took.1 in let sets = c.wake_tasks.ensures.set in let later = sets.later in let leaves = ap (λ (z : V). z.steps) c.unlock.ensures.kept in
    let before = ap (λ (z : V). z.ext.wake.wakes) c.unlock.ensures.kept ∙ (ap (λ (b : SemWake). b.wakes) w.chosen.chose ∙ (ap (λ (e : RwSemHand). e.wake.wakes) c.lock.ensures.gained.ext ∙ sym c.requires.counted.wakes)) in
    wakes-within c.args.kind (seen_of c.args.pass.now) (seen_of c.lock.new.pass) (seen_of c.wake.new.pass) (seen_of c.wake_tasks.new.pass) c.args.counts.now.wakes c.args.counts.now.wakes c.wake_tasks.new.counts.wakes refl
    (ap (λ (h : Hand). h.task) c.lock.ensures.gained.hand) (omega (arith, since, by_now)) c.lock.ensures.on.goes_on
    (record { woken = woken_tasks c.wake.new.woken; wakes_of = record { was = w.was; first = w.first; written = w.written; owned = w.owned; saw = w.saw; woken_are = w.woken_are }; set = c.wake_tasks.ensures.counted.wakes ∙ (ap (λ (z : V). z.ext.wake.wakes) sets.is ∙ (λ i. slept (length (c.tasks.ensures i)) (before i))) })
    (omega (arith, later, leaves)) (λ p t. c.wake_tasks.ensures.goes_on p (c.unlock.ensures.on.goes_on p t))
