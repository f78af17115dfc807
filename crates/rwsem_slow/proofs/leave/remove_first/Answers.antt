use Rattle.std.proofs.Common.{◌∙◌, ℕ, None, Some, ap, arith, refl, subst, sym}
use Rattle.lock_core.specs.Shown.{FindsSince}
use Rattle.lock_core.proofs.Within.{since-within}
use Rattle.wait_list.specs.Lists.{first_code}
use Rattle.rwsem_wake.specs.RwSemPlaces.{seen_of}
use Rattle.rwsem_wake.specs.RwSemViews.{V, list_at}
use Rattle.rwsem_slow.proofs.Quitting.{finds-code, first-allowed, left-without, none-left, removed-none, removed-some, some-left}
use Rattle.rwsem_slow.proofs.leave.remove_first.Goals as goal

pub remove-requires-clause-host : goal.remove-requires-clause-host
remove-requires-clause-host g c = first-allowed c.args.pass.now.seat.me.0.view c.args.task c.requires.unmarked c.requires.list (sym c.requires.own.task ∙ c.requires.mine) c.requires.first

pub returns-in-None-clause-gone : goal.returns-in-None-clause-gone
returns-in-None-clause-gone g c = removed-none c.args.pass.now.seat.me.0.view c.remove.new.pass.seat.me.0.view c.first.new.pass.seat.me.0.view c.args.task c.requires.unmarked c.requires.locked c.remove.ensures.later c.remove.ensures.kept None c.first.ensures.later c.in-None.ensures.told refl

pub returns-in-Some-clause-gone : goal.returns-in-Some-clause-gone
returns-in-Some-clause-gone g c = removed-some c.args.pass.now.seat.me.0.view c.remove.new.pass.seat.me.0.view c.first.new.pass.seat.me.0.view c.args.task c.requires.unmarked c.requires.locked c.remove.ensures.later c.remove.ensures.kept (Some c.in-Some.field-0) c.first.ensures.later c.in-Some.ensures.told c.in-Some.field-0 refl

pub returns-in-None-clause-goes_on : goal.returns-in-None-clause-goes_on
returns-in-None-clause-goes_on g c = λ p t. c.first.ensures.on.goes_on p (c.remove.ensures.on.goes_on p t)

pub returns-in-Some-clause-goes_on : goal.returns-in-Some-clause-goes_on
returns-in-Some-clause-goes_on g c = λ p t. c.first.ensures.on.goes_on p (c.remove.ensures.on.goes_on p t)

pub returns-in-None-clause-left : goal.returns-in-None-clause-left
returns-in-None-clause-left g c = left-without c.args.pass.now.seat.me.0.view c.remove.new.pass.seat.me.0.view c.first.new.pass.seat.me.0.view c.args.task c.requires.unmarked c.requires.locked c.remove.ensures.later c.remove.ensures.kept None c.first.ensures.later c.in-None.ensures.told c.requires.list

pub returns-in-Some-clause-left : goal.returns-in-Some-clause-left
returns-in-Some-clause-left g c = left-without c.args.pass.now.seat.me.0.view c.remove.new.pass.seat.me.0.view c.first.new.pass.seat.me.0.view c.args.task c.requires.unmarked c.requires.locked c.remove.ensures.later c.remove.ensures.kept (Some c.in-Some.field-0) c.first.ensures.later c.in-Some.ensures.told c.requires.list

pub returns-in-None-clause-none_left : goal.returns-in-None-clause-none_left
returns-in-None-clause-none_left g c = none-left c.args.pass.now.seat.me.0.view c.remove.new.pass.seat.me.0.view c.first.new.pass.seat.me.0.view c.args.task c.requires.unmarked c.requires.locked c.remove.ensures.later c.remove.ensures.kept None c.first.ensures.later c.in-None.ensures.told refl

pub returns-in-Some-clause-none_left : goal.returns-in-Some-clause-none_left
returns-in-Some-clause-none_left g c = some-left c.args.pass.now.seat.me.0.view c.remove.new.pass.seat.me.0.view c.first.new.pass.seat.me.0.view c.args.task c.requires.unmarked c.requires.locked c.remove.ensures.later c.remove.ensures.kept (Some c.in-Some.field-0) c.first.ensures.later c.in-Some.ensures.told c.in-Some.field-0 refl

pub returns-in-None-clause-found : goal.returns-in-None-clause-found
returns-in-None-clause-found g c = let v = c.args.pass.now.seat.me.0.view in let a = c.remove.new.pass.seat.me.0.view in let u = c.first.new.pass.seat.me.0.view in let later = c.remove.ensures.later in
    let left = left-without v a u c.args.task c.requires.unmarked c.requires.locked later c.remove.ensures.kept None c.first.ensures.later c.in-None.ensures.told c.requires.list in
    subst (λ (n : ℕ). FindsSince list_at n (seen_of c.args.pass.now) (seen_of c.first.new.pass)) (sym (finds-code a u None c.in-None.ensures.told) ∙ ap first_code left)
    (since-within (seen_of c.args.pass.now) (seen_of c.remove.new.pass) (seen_of c.first.new.pass) (seen_of c.first.new.pass) (ap (λ (z : V). z.hand.task) c.remove.ensures.kept.view) (omega (arith, later)) c.remove.ensures.on.goes_on c.in-None.ensures.found (omega arith) (λ p t. t))

pub returns-in-Some-clause-found : goal.returns-in-Some-clause-found
returns-in-Some-clause-found g c = let v = c.args.pass.now.seat.me.0.view in let a = c.remove.new.pass.seat.me.0.view in let u = c.first.new.pass.seat.me.0.view in let later = c.remove.ensures.later in
    let left = left-without v a u c.args.task c.requires.unmarked c.requires.locked later c.remove.ensures.kept (Some c.in-Some.field-0) c.first.ensures.later c.in-Some.ensures.told c.requires.list in
    subst (λ (n : ℕ). FindsSince list_at n (seen_of c.args.pass.now) (seen_of c.first.new.pass)) (sym (finds-code a u (Some c.in-Some.field-0) c.in-Some.ensures.told) ∙ ap first_code left)
    (since-within (seen_of c.args.pass.now) (seen_of c.remove.new.pass) (seen_of c.first.new.pass) (seen_of c.first.new.pass) (ap (λ (z : V). z.hand.task) c.remove.ensures.kept.view) (omega (arith, later)) c.remove.ensures.on.goes_on c.in-Some.ensures.found (omega arith) (λ p t. t))
