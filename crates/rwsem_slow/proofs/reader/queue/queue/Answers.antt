use Rattle.std.proofs.Common.{◌∙◌, ap, arith, refl}
use Rattle.wake_duty.specs.DutyWakes.{waits}
use Rattle.rwsem_slow.specs.Types.{Reads}
use Rattle.rwsem_wake.specs.RwSemViews.{V}
use Rattle.rwsem_wake.specs.RwSemWakes.{kind_at, woken_tasks}
use Rattle.rwsem_wake.specs.RwSemPlaces.{seen_of}
use Rattle.lock_core.proofs.Within.{found-within}
use Rattle.rwsem_slow.specs.Waking.{behind}
use Rattle.rwsem_slow.proofs.Woken.{of-within}
use Rattle.rwsem_slow.proofs.Marking.{marks}
use Rattle.rwsem_slow.proofs.reader.queue.queue.Goals as goal

pub returns-clause-listed : goal.returns-clause-listed
returns-clause-listed g c = let came = c.join-count.ensures.came.is in let marks_by = c.choose_others.ensures in
    marks Reads (woken_tasks c.choose_others.new.woken) c.join-count.new.pass.seat.me.0.view c.choose_others.new.pass.seat.me.0.view (ap (λ (z : V). z.ext.sem.wait) came) (ap (λ (z : V). z.ext.wake.chosen) came ∙ c.requires.transit.done.none) (ap (λ (z : V). waits z.ext.wake.wait_state) came) marks_by.beside marks_by.rests marks_by.chosen

pub returns-clause-woken : goal.returns-clause-woken
returns-clause-woken g c = let back = c.join-count.ensures.back in let chooses = c.choose_others.ensures.on.steps in let n = c.join-count.result in let step = c.join-count.new.pass.seat.me.0.view.steps in let u = seen_of c.choose_others.new.pass in record {
  step = step;
  left = n;
  back = (back.0, omega (arith, chooses), back.2, found-within refl (λ p t. t) c.choose_others.ensures.on.goes_on back.3, back.4);
  others = λ even. let w = c.choose_others.ensures.wakes even in
      of-within (kind_at n) (woken_tasks c.choose_others.new.woken) (behind step (seen_of c.args.pass.now)) (seen_of c.join-count.new.pass) u u (ap (λ (z : V). z.hand.task) c.join-count.ensures.came.is) (omega arith) c.join-count.ensures.goes_on (record { was = w.was; first = w.first; written = w.written; owned = w.owned; saw = w.saw; woken_are = w.woken_are }) (omega arith) (λ p t. t);
  nobody = λ odd. c.choose_others.ensures.none odd;
}
