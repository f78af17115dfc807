use Rattle.std.proofs.Common.{◌∙◌, arith, inl, inr, length, refl, sym, ap}
use Rattle.cpu_task.specs.CpuCounting.{slept}
use Rattle.wake_duty.specs.DutyWakes.{waits}
use Rattle.rwsem_slow.specs.Types.{SemWake, Writes}
use Rattle.rwsem_wake.specs.RwSemViews.{V}
use Rattle.rwsem_wake.specs.RwSemWakes.{woken_tasks}
use Rattle.rwsem_slow.proofs.Marking.{marked, marks}
use Rattle.rwsem_slow.proofs.WaitStates.{saw-keeps}
use Rattle.lock_core.specs.Laws.SiteRun.{found-at-step}
use Rattle.rwsem_wake.specs.RwSemPlaces.{seen_of}
use Rattle.rwsem_wake.specs.RwSemViews.{count_at}
use Rattle.rwsem_wake.specs.RwSemWakes.{kind_at}
use Rattle.rwsem_slow.proofs.Woken.{wakes-within}
use Rattle.rwsem_slow.proofs.writer.queue.queue.Goals as goal

pub returns-clause-listed : goal.returns-clause-listed
returns-clause-listed g c = let came = c.join.ensures.came.is in let saw = c.look_listed-count.ensures.kept in let marks_by = c.choose_others.ensures in let tasks = woken_tasks c.choose_others.new.woken in
    let keeps = saw-keeps c.look_listed-count.result c.join.new.pass.seat.me.0.view.ext.wake in let u = c.choose_others.new.pass.seat.me.0.view in
    marked Writes tasks _ u u c.wake_tasks.new.pass.seat.me.0.view (marks Writes tasks c.look_listed-count.new.pass.seat.me.0.view u (ap (λ (z : V). z.ext.sem.wait) saw ∙ ap (λ (z : V). z.ext.sem.wait) came)
    (ap (λ (z : V). z.ext.wake.chosen) saw ∙ (ap (λ (b : SemWake). b.chosen) keeps.is ∙ (ap (λ (z : V). z.ext.wake.chosen) came ∙ c.requires.outside.done.none)))
    (ap (λ (z : V). waits z.ext.wake.wait_state) saw ∙ (keeps.waits ∙ ap (λ (z : V). waits z.ext.wake.wait_state) came)) marks_by.beside marks_by.rests marks_by.chosen) refl c.wake_tasks.ensures.set

pub returns-then-join-clause-woken : goal.returns-then-join-clause-woken
returns-then-join-clause-woken g c = inl (c.join.ensures.first c.if-join.true, refl)

pub returns-clause-woken : goal.returns-clause-woken
returns-clause-woken g c = let n = c.look_listed-count.result in let came = c.join.ensures.came in let enters = came.later in let look = c.look_listed-count.ensures.kept in let looks = ap (λ (z : V). z.steps) look in let chooses = c.choose_others.ensures.on.steps in let sets = c.wake_tasks.ensures.set in let later = sets.later in
    let carried = ap (λ (z : V). z.ext.wake.wakes) look ∙ (ap (λ (x : SemWake). x.wakes) (saw-keeps n c.join.new.pass.seat.me.0.view.ext.wake).is ∙ (ap (λ (z : V). z.ext.wake.wakes) came.is ∙ sym c.requires.counted.wakes)) in
    let same = ap (λ (z : V). z.hand.task) look ∙ ap (λ (z : V). z.hand.task) came.is in let v = c.args.pass.now.seat.me.0 in let b = c.look_listed-count.new.pass.seat.me.0 in
    inr (
      n,
      (b.view.steps, omega (arith, enters, looks), omega (arith, chooses, later), found-at-step b.view v.view.hand.task count_at n v.past b.past c.wake_tasks.new.pass.seat.me.0.past same c.look_listed-count.ensures.on.last c.look_listed-count.ensures.found (λ p t. c.look_listed-count.ensures.on.goes_on p (c.join.ensures.goes_on p t)) (λ p t. c.wake_tasks.ensures.goes_on p (c.choose_others.ensures.on.goes_on p t))),
      λ even. let w = c.choose_others.ensures.wakes even in
          let set_before = ap (λ (x : SemWake). x.wakes) w.chosen.chose ∙ carried in
          wakes-within (kind_at n) (seen_of c.args.pass.now) (seen_of c.look_listed-count.new.pass) (seen_of c.choose_others.new.pass) (seen_of c.wake_tasks.new.pass) c.args.counts.now.wakes c.args.counts.now.wakes c.wake_tasks.new.counts.wakes refl same (omega (arith, enters, looks)) (λ p t. c.look_listed-count.ensures.on.goes_on p (c.join.ensures.goes_on p t))
          (record { woken = woken_tasks c.choose_others.new.woken; wakes_of = record { was = w.was; first = w.first; written = w.written; owned = w.owned; saw = w.saw; woken_are = w.woken_are }; set = c.wake_tasks.ensures.counted.wakes ∙ (ap (λ (z : V). z.ext.wake.wakes) sets.is ∙ (λ i. slept (length (c.tasks.ensures i)) (set_before i))) })
          later c.wake_tasks.ensures.goes_on,
      λ odd. let tasks = c.tasks.ensures ∙ c.choose_others.ensures.none odd in
          c.wake_tasks.ensures.counted.wakes ∙ (ap (λ (z : V). z.ext.wake.wakes) sets.is ∙ (λ i. slept (length (tasks i)) ((ap (λ (x : SemWake). x.wakes) c.choose_others.ensures.chosen.chose ∙ carried) i))),
    )
