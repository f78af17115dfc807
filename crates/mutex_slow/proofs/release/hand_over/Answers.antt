use Rattle.std.proofs.Common.{arith, ap, sym, subst, None, Some, ◌∙◌}
use Rattle.wait_list.specs.Lists.{AreTasks, first_of}
use Rattle.mutex_slow.proofs.Duties.{handed}
use Rattle.lock_core.specs.SpinFrames.{holds_at}
use Rattle.lock_core.specs.Spins.{holds_in}
use Rattle.mutex_slow.specs.Mutexes.{V}
use Rattle.mutex_slow.specs.Types.{ListHand, Face}
use Rattle.mutex_slow.proofs.Ending.{names-found}
use Rattle.mutex_slow.proofs.release.hand_over.Goals as goal

pub returns-in_default-clause-on : goal.returns-in_default-clause-on
returns-in_default-clause-on g c = let left = c.hand_over.ensures.left in let later = left.3 in let steps = ap (λ (v : V). v.steps) left.6 in let first = c.first.ensures.later in record {
  own = c.hand_over.ensures.on.own;
  task = c.hand_over.ensures.numbered ∙ ap (λ (f : Face). f.task) c.first.ensures.face;
  goes_on = λ p t. c.hand_over.ensures.on.goes_on p (c.first.ensures.on.goes_on p t);
  steps = omega (arith, steps, later, first);
}

pub returns-in_default-clause-named : goal.returns-in_default-clause-named
returns-in_default-clause-named g c = let left = c.hand_over.ensures.left in let later = left.3 in let is = left.6 in let steps = ap (λ (v : V). v.steps) is in let word = left.5 in let freed = ap (λ (v : V). v.hand.freed) is in let same = ap (λ (v : V). v.hand.task) c.first.ensures.told.view in
    names-found c.args.pass.now.seat.me.0.view c.first.new.pass.seat.me.0.view c.hand_over.new.pass.seat.me.0.view c.args.pass.now.seat.me.0.past c.first.new.pass.seat.me.0.past c.hand_over.new.pass.seat.me.0.past c.first.new.pass.face.task None c.hand_over.ensures.found.0
    (c.first.ensures.on.own.task ∙ same) (ap (λ (v : V). v.hand.task) is ∙ same) (ap (λ (v : V). v.hand.held) is) c.first.ensures.later (omega (arith, steps, later)) c.in_default.ensures.found c.hand_over.ensures.found.1 c.hand_over.ensures.found.2 c.hand_over.ensures.on.last c.first.ensures.on.goes_on c.hand_over.ensures.on.goes_on
    (ap (λ (v : V). holds_in v.spin) is ∙ (ap (λ (v : V). holds_in v.spin) c.first.ensures.told.view ∙ ap holds_at c.requires.locked)) (omega (arith, word, freed))

pub returns-clause-on : goal.returns-clause-on
returns-clause-on g c = let left = c.hand_over-2.ensures.left in let later = left.3 in let steps = ap (λ (v : V). v.steps) left.6 in let first = c.first.ensures.later in record {
  own = c.hand_over-2.ensures.on.own;
  task = c.hand_over-2.ensures.numbered ∙ ap (λ (f : Face). f.task) c.first.ensures.face;
  goes_on = λ p t. c.hand_over-2.ensures.on.goes_on p (c.first.ensures.on.goes_on p t);
  steps = omega (arith, steps, later, first);
}

pub returns-clause-named : goal.returns-clause-named
returns-clause-named g c = let left = c.hand_over-2.ensures.left in let later = left.3 in let is = left.6 in let steps = ap (λ (v : V). v.steps) is in let word = left.5 in let freed = ap (λ (v : V). v.hand.freed) is in let same = ap (λ (v : V). v.hand.task) c.first.ensures.told.view in
    names-found c.args.pass.now.seat.me.0.view c.first.new.pass.seat.me.0.view c.hand_over-2.new.pass.seat.me.0.view c.args.pass.now.seat.me.0.past c.first.new.pass.seat.me.0.past c.hand_over-2.new.pass.seat.me.0.past c.first.new.pass.face.task (Some c.in-Some.first) c.hand_over-2.ensures.found.0
    (c.first.ensures.on.own.task ∙ same) (ap (λ (v : V). v.hand.task) is ∙ same) (ap (λ (v : V). v.hand.held) is) c.first.ensures.later (omega (arith, steps, later)) c.in-Some.ensures.found c.hand_over-2.ensures.found.1 c.hand_over-2.ensures.found.2 c.hand_over-2.ensures.on.last c.first.ensures.on.goes_on c.hand_over-2.ensures.on.goes_on
    (ap (λ (v : V). holds_in v.spin) is ∙ (ap (λ (v : V). holds_in v.spin) c.first.ensures.told.view ∙ ap holds_at c.requires.locked)) (omega (arith, word, freed), omega (arith, word, freed))

pub returns-in_default-clause-chosen : goal.returns-in_default-clause-chosen
returns-in_default-clause-chosen g c = let left = c.hand_over.ensures.left in let t = c.in_default.ensures.told in let list = ap (λ (v : V). v.ext.list) t.view in
    handed c.first.new.pass.seat.me.0.view c.hand_over.new.pass.seat.me.0.view left.0 left.2 None left.6 (t.is ∙ ap (λ (h : ListHand). first_of h.list) (sym list)) (subst (λ (h : ListHand). AreTasks h.list) (sym list) t.learnt.sound.small)

pub returns-clause-chosen : goal.returns-clause-chosen
returns-clause-chosen g c = let left = c.hand_over-2.ensures.left in let t = c.in-Some.ensures.told in let list = ap (λ (v : V). v.ext.list) t.view in
    handed c.first.new.pass.seat.me.0.view c.hand_over-2.new.pass.seat.me.0.view left.0 left.2 (Some c.in-Some.first) left.6 (t.is ∙ ap (λ (h : ListHand). first_of h.list) (sym list)) (subst (λ (h : ListHand). AreTasks h.list) (sym list) t.learnt.sound.small)
