use Rattle.std.proofs.Common.{◌∙◌, ℕ, ◌+◌, List, drop, sym, refl, ap, subst, IsSome, arith}
use Rattle.std.proofs.lemmas.List.{drop_more}
use Rattle.rwsem_wake.specs.Grants.{OnlySem, granted, granting_on, still_granting, tail}
use Rattle.rwsem_wake.specs.Types.{View, Face, SemHand}
use Rattle.rwsem_wake.proofs.Courses.{only-one-step, only-more, sem-after, starts-granting}
use Rattle.rwsem_wake.proofs.grants.grant_all.Goals as goal

pub loop-task-init : goal.loop-task-init
loop-task-init g c = let v = c.args.pass.now.seat.me.0.view in record {
  own = c.requires.own;
  face = refl;
  goes_on = λ p t. t;
  last = c.requires.last;
  later = omega arith;
  kept = starts-granting g.H.GrantHost.with_sem g.H.GrantHost.sem g.H.GrantHost.sem_same v c.args.batch.now c.requires.granting;
}

pub clear_grant-requires-clause-own : goal.clear_grant-requires-clause-own
clear_grant-requires-clause-own g c = c.loop-task.invariant.own

pub clear_grant-requires-clause-numbered : goal.clear_grant-requires-clause-numbered
clear_grant-requires-clause-numbered g c = subst (λ (f : Face). IsSome f.task) (sym c.loop-task.invariant.face) c.requires.numbered

pub clear_grant-requires-clause-held : goal.clear_grant-requires-clause-held
clear_grant-requires-clause-held g c = ap (λ (z : View _). z.spin.frame.point) c.loop-task.invariant.kept ∙ c.requires.held

pub clear_grant-requires-clause-next : goal.clear_grant-requires-clause-next
clear_grant-requires-clause-next g c = let with_sem = g.H.GrantHost.with_sem in let u = c.args.pass.now.seat.me.0.view in let s = g.H.GrantHost.sem u.ext in let v = c.loop-task.pass.seat.me.0.view in let batch = c.args.batch.now in let i = c.loop-task.task-index in
    let after = sem-after with_sem g.H.GrantHost.sem g.H.GrantHost.sem_back u (still_granting s (drop i batch)) v c.loop-task.invariant.kept in let next = drop_more batch i 0 c.loop-task-test.true in
    (ap (λ (z : SemHand). z.stage) after ∙ ap granting_on next, (drop (i + 1) batch, ap (λ (z : SemHand). z.rest) after ∙ next))

pub clear_grant-requires-clause-clear : goal.clear_grant-requires-clause-clear
clear_grant-requires-clause-clear g c = let with_sem = g.H.GrantHost.with_sem in let u = c.args.pass.now.seat.me.0.view in let s = g.H.GrantHost.sem u.ext in let v = c.loop-task.pass.seat.me.0.view in let batch = c.args.batch.now in let i = c.loop-task.task-index in
    let after = sem-after with_sem g.H.GrantHost.sem g.H.GrantHost.sem_back u (still_granting s (drop i batch)) v c.loop-task.invariant.kept in let next = drop_more batch i 0 c.loop-task-test.true in ap (λ (z : SemHand). z.bias) after

pub clear_grant-requires-clause-task : goal.clear_grant-requires-clause-task
clear_grant-requires-clause-task g c = c.requires.tasks c.loop-task.task-index c.loop-task-test.true

pub loop-task-preserved : goal.loop-task-preserved
loop-task-preserved g c = let with_sem = g.H.GrantHost.with_sem in let u = c.args.pass.now.seat.me.0.view in let s = g.H.GrantHost.sem u.ext in let v = c.loop-task.pass.seat.me.0.view in let batch = c.args.batch.now in let i = c.loop-task.task-index in
    let after = sem-after with_sem g.H.GrantHost.sem g.H.GrantHost.sem_back u (still_granting s (drop i batch)) v c.loop-task.invariant.kept in let next = drop_more batch i 0 c.loop-task-test.true in let w = c.clear_grant.new.pass.seat.me.0.view in record {
      own = c.clear_grant.ensures.on.own;
      face = c.clear_grant.ensures.face ∙ c.loop-task.invariant.face;
      goes_on = λ p t. c.clear_grant.ensures.on.goes_on p (c.loop-task.invariant.goes_on p t);
      last = c.clear_grant.ensures.on.last;
      later = let more = ap (λ (z : View _). z.steps) c.clear_grant.ensures.kept in let before = c.loop-task.invariant.later in omega (arith, more, before);
      kept = only-more with_sem g.H.GrantHost.sem_over u (still_granting s (drop i batch)) (still_granting s (drop (i + 1) batch)) v w c.loop-task.invariant.kept
          (subst (λ (z : SemHand). OnlySem with_sem v z w) (ap granted after ∙ ap (λ (z : List ℕ). still_granting s (tail z)) next) (only-one-step with_sem v (granted (g.H.GrantHost.sem v.ext)) w c.clear_grant.ensures.kept));
    }
