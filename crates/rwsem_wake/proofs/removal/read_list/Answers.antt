use Rattle.std.proofs.Common.{◌∙◌, ◌≤◌, length, Some, None, arith, subst, sym}
use Rattle.word_bits.specs.declared.TheConstants.{MAX_TASKS}
use Rattle.wait_list.proofs.Waiters.{few-tasks}
use Rattle.rwsem_wake.proofs.Walking.{along-ends, along-full, along-on, along-read, along-there, among-on, knows-on, walk-next, walk-steps, walk-there}
use Rattle.wait_list.specs.Lists.{AreAmong, IsStill, KnowsWaiter}
use Rattle.rwsem_wake.specs.Types.{ListHand, RwSemHand}
use Rattle.rwsem_wake.proofs.Hosting.{finds-next}
use Rattle.rwsem_wake.proofs.removal.read_list.Goals as goal

pub next-requires-clause-task : goal.next-requires-clause-task
next-requires-clause-task g c = c.walk.invariant.few c.walk.last.task (along-read c.args.pass.now.seat.me.0.view.ext.list.list c.walk.waiters.items c.walk.last c.walk.invariant.along)

pub next-requires-clause-still : goal.next-requires-clause-still
next-requires-clause-still g c = subst (λ (l : RwSemHand → ListHand). IsStill l c.walk.pass.seat.me.0.view) (sym g.met.H.WakeHost.list_parts.0) (knows-on c.args.pass.now.seat.me.0.view c.walk.pass.seat.me.0.view c.requires.list c.walk.invariant.kept).still

pub next-requires-clause-there : goal.next-requires-clause-there
next-requires-clause-there g c = let v = c.args.pass.now.seat.me.0.view in subst (λ (l : RwSemHand → ListHand). KnowsWaiter l c.walk.last.task c.walk.pass.seat.me.0.view) (sym g.met.H.WakeHost.list_parts.0) (walk-there v c.walk.pass.seat.me.0.view c.requires.list c.walk.invariant.kept c.walk.last.task (along-there v.ext.list.list c.walk.waiters.items c.walk.last c.walk.invariant.along))

pub returns-in-None-clause-read : goal.returns-in-None-clause-read
returns-in-None-clause-read g c = let v = c.args.pass.now.seat.me.0.view in
    along-ends v.ext.list.list c.walk.waiters.items c.walk.last c.walk.invariant.along c.requires.list.sound.once (walk-next v c.walk.pass.seat.me.0.view c.requires.list c.walk.invariant.kept c.walk.last.task None c.next.new.pass.seat.me.0.view (finds-next g.H.ListHost.list g.H.ListHost.with_list g.met.H.WakeHost.list_parts.0 g.met.H.WakeHost.list_parts.1 c.walk.pass.seat.me.0.view c.walk.last.task None c.next.new.pass.seat.me.0.view c.in-None.ensures.told))

pub walk-preserved : goal.walk-preserved
walk-preserved g c = let v = c.args.pass.now.seat.me.0.view in record {
  own = c.next.ensures.on.own;
  face = c.next.ensures.face ∙ c.walk.invariant.face;
  goes_on = λ p t. c.next.ensures.on.goes_on p (c.walk.invariant.goes_on p t);
  latest = c.next.ensures.on.last;
  later = let a = c.next.ensures.later in let b = c.walk.invariant.later in omega (arith, a, b);
  kept = walk-steps v c.walk.pass.seat.me.0.view c.requires.list c.walk.invariant.kept c.walk.last.task (Some c.in-Some.next) c.next.new.pass.seat.me.0.view (finds-next g.H.ListHost.list g.H.ListHost.with_list g.met.H.WakeHost.list_parts.0 g.met.H.WakeHost.list_parts.1 c.walk.pass.seat.me.0.view c.walk.last.task (Some c.in-Some.next) c.next.new.pass.seat.me.0.view c.in-Some.ensures.told);
  along = along-on v.ext.list.list c.walk.waiters.items c.walk.last c.walk.invariant.along c.in-Some.next _ c.requires.list.sound.once (walk-next v c.walk.pass.seat.me.0.view c.requires.list c.walk.invariant.kept c.walk.last.task (Some c.in-Some.next) c.next.new.pass.seat.me.0.view (finds-next g.H.ListHost.list g.H.ListHost.with_list g.met.H.WakeHost.list_parts.0 g.met.H.WakeHost.list_parts.1 c.walk.pass.seat.me.0.view c.walk.last.task (Some c.in-Some.next) c.next.new.pass.seat.me.0.view c.in-Some.ensures.told)) c.push-in-Some.ensures.items;
  few = subst (AreAmong (length c.args.site.now.table.shared.key)) (sym c.push-in-Some.ensures.items) (among-on (length c.args.site.now.table.shared.key) c.walk.waiters.items c.in-Some.next c.walk.invariant.few c.in-Some.ensures.small);
}

pub returns-in-None-clause-tasks : goal.returns-in-None-clause-tasks
returns-in-None-clause-tasks g c = let v = c.args.pass.now.seat.me.0.view in
    subst (AreAmong (length c.args.site.now.table.shared.key)) (along-ends v.ext.list.list c.walk.waiters.items c.walk.last c.walk.invariant.along c.requires.list.sound.once (walk-next v c.walk.pass.seat.me.0.view c.requires.list c.walk.invariant.kept c.walk.last.task None c.next.new.pass.seat.me.0.view (finds-next g.H.ListHost.list g.H.ListHost.with_list g.met.H.WakeHost.list_parts.0 g.met.H.WakeHost.list_parts.1 c.walk.pass.seat.me.0.view c.walk.last.task None c.next.new.pass.seat.me.0.view c.in-None.ensures.told))) c.walk.invariant.few

pub returns-clause-read : goal.returns-clause-read
returns-clause-read g c = let known = c.args.pass.now.seat.me.0.view.ext.list.list in let few = few-tasks known c.requires.list.sound in let many : MAX_TASKS ≤ length c.walk.waiters.items = omega arith in
    along-full known c.walk.waiters.items c.walk.last c.walk.invariant.along few many

pub returns-clause-tasks : goal.returns-clause-tasks
returns-clause-tasks g c = let known = c.args.pass.now.seat.me.0.view.ext.list.list in let few = few-tasks known c.requires.list.sound in let many : MAX_TASKS ≤ length c.walk.waiters.items = omega arith in
    subst (AreAmong (length c.args.site.now.table.shared.key)) (along-full known c.walk.waiters.items c.walk.last c.walk.invariant.along few many) c.walk.invariant.few
