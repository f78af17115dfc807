use Rattle.std.proofs.Common.{◌∙◌, arith, ap, length, sym}
use Rattle.cpu_task.specs.CpuCounting.{slept}
use Rattle.rwsem_slow.specs.Types.{SemWake}
use Rattle.rwsem_wake.specs.RwSemPlaces.{seen_of}
use Rattle.rwsem_wake.specs.RwSemWakes.{woken_tasks}
use Rattle.rwsem_slow.proofs.Woken.{left-within}
use Rattle.rwsem_wake.specs.RwSemViews.{V}
use Rattle.rwsem_slow.proofs.Quitting.{leaves-on}
use Rattle.rwsem_slow.proofs.leave.interrupt.Goals as goal

pub leave-requires-clause-may : goal.leave-requires-clause-may
leave-requires-clause-may g c = let kept = c.consume_pending.ensures.kept in leaves-on c.args.pass.now.seat.me.0.view c.consume_pending.new.pass.seat.me.0.view (ap (λ (z : V). z.ext.sem) kept) (ap (λ (z : V). z.ext.list.changes) kept) (ap (λ (z : V). z.ext.wake) kept) c.requires.may

pub returns-clause-woken : goal.returns-clause-woken
returns-clause-woken g c = let kept = c.consume_pending.ensures.kept in let eats = ap (λ (z : V). z.steps) kept in let sets = c.wake_tasks.ensures.set in let later = sets.later in let leaves = ap (λ (z : V). z.steps) c.unlock.ensures.kept in let tasks = c.tasks.ensures in
    let before = ap (λ (z : V). z.ext.wake.wakes) c.unlock.ensures.kept ∙ (ap (λ (b : SemWake). b.wakes) c.leave.ensures.left.wake ∙ (ap (λ (z : V). z.ext.wake.wakes) kept ∙ sym c.requires.counted.wakes)) in (
      woken_tasks c.leave.new.woken,
      left-within (woken_tasks c.leave.new.woken) (seen_of c.args.pass.now) (seen_of c.consume_pending.new.pass) (seen_of c.leave.new.pass) (seen_of c.wake_tasks.new.pass) (ap (λ (z : V). z.hand.task) kept) (omega (arith, eats)) c.consume_pending.ensures.on.goes_on c.leave.ensures.woken (omega (arith, later, leaves)) (λ p t. c.wake_tasks.ensures.goes_on p (c.unlock.ensures.on.goes_on p t)),
      c.wake_tasks.ensures.counted.wakes ∙ (ap (λ (z : V). z.ext.wake.wakes) sets.is ∙ (λ i. slept (length (tasks i)) (before i))),
    )
