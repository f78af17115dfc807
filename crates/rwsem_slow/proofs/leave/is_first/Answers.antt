use Rattle.std.proofs.Common.{ℕ, None, Some, subst, sym}
use Rattle.lock_core.specs.Shown.{FindsSince}
use Rattle.rwsem_wake.specs.RwSemPlaces.{seen_of}
use Rattle.rwsem_wake.specs.RwSemViews.{list_at}
use Rattle.rwsem_slow.proofs.Quitting.{finds-code, first-is, first-isnt, none-isnt}
use Rattle.rwsem_slow.proofs.leave.is_first.Goals as goal

pub returns-in-Some-clause-first : goal.returns-in-Some-clause-first
returns-in-Some-clause-first g c = λ is. first-is c.args.pass.now.seat.me.0.view c.first.new.pass.seat.me.0.view c.in-Some.first c.args.task c.in-Some.ensures.told is

pub returns-in-Some-clause-behind : goal.returns-in-Some-clause-behind
returns-in-Some-clause-behind g c = λ isnt. first-isnt c.args.pass.now.seat.me.0.view c.first.new.pass.seat.me.0.view c.in-Some.first c.args.task c.in-Some.ensures.told isnt

pub returns-in-None-clause-behind : goal.returns-in-None-clause-behind
returns-in-None-clause-behind g c = λ isnt. none-isnt c.args.pass.now.seat.me.0.view c.first.new.pass.seat.me.0.view c.args.task c.in-None.ensures.told

pub returns-in-Some-clause-found : goal.returns-in-Some-clause-found
returns-in-Some-clause-found g c = subst (λ (n : ℕ). FindsSince list_at n (seen_of c.args.pass.now) (seen_of c.first.new.pass)) (sym (finds-code c.args.pass.now.seat.me.0.view c.first.new.pass.seat.me.0.view (Some c.in-Some.first) c.in-Some.ensures.told)) c.in-Some.ensures.found

pub returns-in-None-clause-found : goal.returns-in-None-clause-found
returns-in-None-clause-found g c = subst (λ (n : ℕ). FindsSince list_at n (seen_of c.args.pass.now) (seen_of c.first.new.pass)) (sym (finds-code c.args.pass.now.seat.me.0.view c.first.new.pass.seat.me.0.view None c.in-None.ensures.told)) c.in-None.ensures.found
