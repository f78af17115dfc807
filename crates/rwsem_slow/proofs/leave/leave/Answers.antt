use Rattle.std.proofs.Common.{◌∙◌, arith, ap, refl, sym}
use Rattle.lock_core.proofs.Within.{since-within}
use Rattle.rwsem_wake.specs.RwSemPlaces.{seen_of}
use Rattle.rwsem_wake.specs.RwSemViews.{V}
use Rattle.rwsem_slow.proofs.Woken.{on-within}
use Rattle.rwsem_slow.proofs.Quitting.{leaves-listed, leaves-still, left-becomes, left-looked, looks-leaves}
use Rattle.rwsem_wake.specs.RwSemWakes.{woken_tasks}
use Rattle.rwsem_slow.proofs.leave.leave.Goals as goal

pub is_first-requires-clause-still : goal.is_first-requires-clause-still
is_first-requires-clause-still g c = leaves-still c.args.pass.now.seat.me.0.view c.requires.may

pub leave_first-requires-clause-may : goal.leave_first-requires-clause-may
leave_first-requires-clause-may g c = looks-leaves c.args.pass.now.seat.me.0.view c.is_first.new.pass.seat.me.0.view c.is_first.ensures.looked c.requires.may

pub leave_first-requires-clause-task : goal.leave_first-requires-clause-task
leave_first-requires-clause-task g c = (c.requires.own.planned c.in-Some.task (sym c.task.ensures ∙ c.in-Some.is)).0

pub remove_behind-requires-clause-may : goal.remove_behind-requires-clause-may
remove_behind-requires-clause-may g c = looks-leaves c.args.pass.now.seat.me.0.view c.is_first.new.pass.seat.me.0.view c.is_first.ensures.looked c.requires.may

pub remove_behind-requires-clause-task : goal.remove_behind-requires-clause-task
remove_behind-requires-clause-task g c = (c.requires.own.planned c.in-Some.task (sym c.task.ensures ∙ c.in-Some.is)).0

pub returns-then-is_first-clause-left : goal.returns-then-is_first-clause-left
returns-then-is_first-clause-left g c = left-looked (woken_tasks c.leave_first.new.woken) c.args.pass.now.seat.me.0.view c.is_first.new.pass.seat.me.0.view c.leave_first.new.pass.seat.me.0.view c.is_first.ensures.looked c.leave_first.ensures.left

pub returns-else-is_first-clause-left : goal.returns-else-is_first-clause-left
returns-else-is_first-clause-left g c = let u = c.is_first.new.pass.seat.me.0.view in let x = c.remove_behind.new.pass.seat.me.0.view in left-looked (woken_tasks c.args.woken.now) c.args.pass.now.seat.me.0.view u x c.is_first.ensures.looked (left-becomes (woken_tasks c.args.woken.now) u x c.requires.empty (leaves-listed u (looks-leaves c.args.pass.now.seat.me.0.view u c.is_first.ensures.looked c.requires.may)).clear c.remove_behind.ensures.gone)

pub returns-then-is_first-clause-woken : goal.returns-then-is_first-clause-woken
returns-then-is_first-clause-woken g c = let looked = c.is_first.ensures.looked in let steps = looked.later in let more = c.leave_first.ensures.on.steps in let first = c.is_first.ensures.first c.if-is_first.true in let last = seen_of c.leave_first.new.pass in record {
  task = c.in-Some.task;
  mine = sym c.requires.own.task ∙ (sym c.task.ensures ∙ c.in-Some.is);
  was = c.is_first.new.pass.seat.me.0.view.ext.list.list;
  first = since-within (seen_of c.args.pass.now) (seen_of c.args.pass.now) (seen_of c.is_first.new.pass) last refl (omega arith) (λ p t. t) c.is_first.ensures.found more c.leave_first.ensures.on.goes_on;
  next = λ _. since-within (seen_of c.args.pass.now) (seen_of c.is_first.new.pass) last last (ap (λ (z : V). z.hand.task) looked.is) steps c.is_first.ensures.goes_on c.leave_first.ensures.found (omega arith) (λ p t. t);
  others = λ _. on-within _ (woken_tasks c.leave_first.new.woken) (seen_of c.args.pass.now) (seen_of c.is_first.new.pass) last last (ap (λ (z : V). z.hand.task) looked.is) steps c.is_first.ensures.goes_on c.leave_first.ensures.woken (omega arith) (λ p t. t);
  nobody = λ other. absurd (other first);
}

pub returns-else-is_first-clause-woken : goal.returns-else-is_first-clause-woken
returns-else-is_first-clause-woken g c = let more = c.remove_behind.ensures.gone.later in let isnt = c.is_first.ensures.behind c.if-is_first.false in record {
  task = c.in-Some.task;
  mine = sym c.requires.own.task ∙ (sym c.task.ensures ∙ c.in-Some.is);
  was = c.is_first.new.pass.seat.me.0.view.ext.list.list;
  first = since-within (seen_of c.args.pass.now) (seen_of c.args.pass.now) (seen_of c.is_first.new.pass) (seen_of c.remove_behind.new.pass) refl (omega arith) (λ p t. t) c.is_first.ensures.found more c.remove_behind.ensures.goes_on;
  next = λ is. absurd (isnt is);
  others = λ is. absurd (isnt is);
  nobody = λ _. c.requires.empty;
}
