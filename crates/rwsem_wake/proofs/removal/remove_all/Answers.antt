use Rattle.std.proofs.Common.{◌∙◌, ◌≤◌, ℕ, List, get_or, length, sym, refl, ap, subst, arith}
use Rattle.rwsem_wake.specs.Types.{SpinHand, Leave, ListHand, RwSemHand}
use Rattle.wait_list.specs.Lists.{AllowsChange, IsStill}
use Rattle.lock_core.proofs.Sitting.{some-number}
use Rattle.rwsem_wake.proofs.Hosting.{removes}
use Rattle.rwsem_wake.proofs.Removing.{removed-all, removed-may, removed-none, removed-one}
use Rattle.rwsem_wake.proofs.removal.remove_all.Goals as goal

pub loop-task-init : goal.loop-task-init
loop-task-init g c = record {
  own = c.requires.own;
  face = refl;
  goes_on = λ p t. t;
  last = c.requires.last;
  removed = removed-none c.args.pass.now.seat.me.0.view c.args.batch.now c.requires.list c.requires.may c.requires.none c.requires.heads c.requires.begins;
}

pub remove-requires-clause-own : goal.remove-requires-clause-own
remove-requires-clause-own g c = c.loop-task.invariant.own

pub remove-requires-clause-held : goal.remove-requires-clause-held
remove-requires-clause-held g c = ap (λ (s : SpinHand). s.frame.point) c.loop-task.invariant.removed.beside.spin ∙ c.requires.held

pub remove-requires-clause-still : goal.remove-requires-clause-still
remove-requires-clause-still g c = subst (λ (l : RwSemHand → ListHand). IsStill l c.loop-task.pass.seat.me.0.view) (sym g.met.H.WakeHost.list_parts.0) c.loop-task.invariant.removed.list.still

pub remove-requires-clause-host : goal.remove-requires-clause-host
remove-requires-clause-host g c = let own = some-number c.args.pass.now.face.task c.requires.numbered in let v = c.loop-task.pass.seat.me.0.view in let batch : List ℕ = c.args.batch.now in
    subst (λ (l : RwSemHand → ListHand). AllowsChange l g.H.ListHost.may_change (Leave (get_or c.args.batch.now c.loop-task.task-index 0)) v) (sym g.met.H.WakeHost.list_parts.0)
    (λ q same. g.met.H.WakeHost.may_pick v q (get_or batch c.loop-task.task-index 0) (removed-may c.args.pass.now.seat.me.0.view batch c.loop-task.task-index v c.loop-task.invariant.removed c.loop-task-test.true c.requires.few (own.0, sym c.requires.own.task ∙ own.1) c.requires.keeps q same))

pub loop-task-preserved : goal.loop-task-preserved
loop-task-preserved g c = record {
  own = c.remove.ensures.on.own;
  face = c.remove.ensures.face ∙ c.loop-task.invariant.face;
  goes_on = λ p t. c.remove.ensures.on.goes_on p (c.loop-task.invariant.goes_on p t);
  last = c.remove.ensures.on.last;
  removed = removed-one c.args.pass.now.seat.me.0.view c.args.batch.now c.loop-task.task-index c.loop-task.pass.seat.me.0.view c.loop-task.invariant.removed c.loop-task-test.true c.remove.new.pass.seat.me.0.view c.remove.ensures.later (removes g.H.ListHost.list g.H.ListHost.with_list g.met.H.WakeHost.list_parts.0 g.met.H.WakeHost.list_parts.1 c.loop-task.pass.seat.me.0.view (get_or c.args.batch.now c.loop-task.task-index 0) c.remove.new.pass.seat.me.0.view c.remove.ensures.kept);
}

pub returns-clause-removed : goal.returns-clause-removed
returns-clause-removed g c = let past_end : length c.args.batch.now ≤ c.loop-task.task-index = omega arith in removed-all c.args.pass.now.seat.me.0.view c.args.batch.now c.loop-task.task-index c.loop-task.pass.seat.me.0.view c.loop-task.invariant.removed past_end
