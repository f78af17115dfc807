use Rattle.std.proofs.Common.{◌∙◌, ℕ, [], ◌∷◌, false, IsSome, None, Option, Some, refl, sym, subst, ap, arith}
use Rattle.lock_core.specs.SiteHandles.{Finds}
use Rattle.wait_list.specs.Lists.{IsStill, waiter_code}
use Rattle.rwsem_wake.specs.RwSemViews.{V}
use Rattle.rwsem_wake.proofs.Hosting.{finds-first}
use Rattle.rwsem_wake.proofs.Removing.{first-reads}
use Rattle.rwsem_wake.proofs.FirstLooks.{looked-first, looked-list, looked-rests, not-owned, still-out, wakes-nobody, wakes-none-beside, wakes-readers, wakes-readers-none, wakes-writer}
use Rattle.rwsem_wake.specs.RwSemWakes.{woken_tasks}
use Rattle.rwsem_wake.specs.Types.{Face, Waiter, ListHand, RwSemHand}
use Rattle.rwsem_wake.proofs.wake.wake.Goals as goal

pub first-requires-clause-still : goal.first-requires-clause-still
first-requires-clause-still g c = subst (λ (l : RwSemHand → ListHand). IsStill l c.args.pass.now.seat.me.0.view) (sym g.met.H.WakeHost.list_parts.0) c.requires.rests.still

pub choose-requires-clause-rests : goal.choose-requires-clause-rests
choose-requires-clause-rests g c = looked-rests c.args.pass.now c.first.new.pass c.requires.rests None (finds-first g.H.ListHost.list g.H.ListHost.with_list g.met.H.WakeHost.list_parts.0 g.met.H.WakeHost.list_parts.1 c.args.pass.now.seat.me.0.view None c.first.new.pass.seat.me.0.view c.in_default.ensures.told) c.first.ensures.later (subst (λ (place : ℕ). Finds place (waiter_code None) c.args.pass.now c.first.new.pass) g.met.H.WakeHost.places.1 c.in_default.ensures.found)

pub choose-requires-clause-list : goal.choose-requires-clause-list
choose-requires-clause-list g c = looked-list c.args.pass.now c.first.new.pass c.requires.rests None (finds-first g.H.ListHost.list g.H.ListHost.with_list g.met.H.WakeHost.list_parts.0 g.met.H.WakeHost.list_parts.1 c.args.pass.now.seat.me.0.view None c.first.new.pass.seat.me.0.view c.in_default.ensures.told) c.first.ensures.later (subst (λ (place : ℕ). Finds place (waiter_code None) c.args.pass.now c.first.new.pass) g.met.H.WakeHost.places.1 c.in_default.ensures.found)

pub returns-in_default-clause-on : goal.returns-in_default-clause-on
returns-in_default-clause-on g c = record { own = c.choose.ensures.own; task = ap (λ p. p.task) (c.choose.ensures.face ∙ c.first.ensures.face); goes_on = λ p t. c.choose.ensures.goes_on p (c.first.ensures.on.goes_on p t); steps = let a = c.first.ensures.later in let b = c.choose.ensures.looks.later in omega (arith, a, b) }

pub returns-in_default-clause-wakes : goal.returns-in_default-clause-wakes
returns-in_default-clause-wakes g c = wakes-nobody c.args.pass.now c.first.new.pass c.requires.rests None (finds-first g.H.ListHost.list g.H.ListHost.with_list g.met.H.WakeHost.list_parts.0 g.met.H.WakeHost.list_parts.1 c.args.pass.now.seat.me.0.view None c.first.new.pass.seat.me.0.view c.in_default.ensures.told) c.first.ensures.later (subst (λ (place : ℕ). Finds place (waiter_code None) c.args.pass.now c.first.new.pass) g.met.H.WakeHost.places.1 c.in_default.ensures.found) c.choose.new.pass c.args.kind (woken_tasks c.args.woken.now) c.requires.empty refl c.choose.ensures.looks c.choose.ensures.goes_on

pub returns-in-Any-clause-on : goal.returns-in-Any-clause-on
returns-in-Any-clause-on g c = record { own = c.choose-in-Any.ensures.own; task = ap (λ p. p.task) (c.choose-in-Any.ensures.face ∙ c.first.ensures.face); goes_on = λ p t. c.choose-in-Any.ensures.goes_on p (c.first.ensures.on.goes_on p t); steps = let a = c.first.ensures.later in let b = c.choose-in-Any.ensures.looks.later in omega (arith, a, b) }

pub returns-in-Any-clause-wakes : goal.returns-in-Any-clause-wakes
returns-in-Any-clause-wakes g c = let w = c.in-Some.first in
    wakes-writer c.args.pass.now c.first.new.pass c.requires.rests (Some w) (finds-first g.H.ListHost.list g.H.ListHost.with_list g.met.H.WakeHost.list_parts.0 g.met.H.WakeHost.list_parts.1 c.args.pass.now.seat.me.0.view (Some w) c.first.new.pass.seat.me.0.view c.in-Some.ensures.told) c.first.ensures.later (subst (λ (place : ℕ). Finds place (waiter_code (Some w)) c.args.pass.now c.first.new.pass) g.met.H.WakeHost.places.1 c.in-Some.ensures.found) c.choose-in-Any.new.pass c.args.kind (w.task ∷ []) w refl c.if-first.true c.in-Any.is c.requires.may refl c.choose-in-Any.ensures.looks c.choose-in-Any.ensures.goes_on

pub returns-in-Readers-clause-wakes : goal.returns-in-Readers-clause-wakes
returns-in-Readers-clause-wakes g c = let w = c.in-Some.first in wakes-readers-none c.args.pass.now c.first.new.pass c.requires.rests (Some w) (finds-first g.H.ListHost.list g.H.ListHost.with_list g.met.H.WakeHost.list_parts.0 g.met.H.WakeHost.list_parts.1 c.args.pass.now.seat.me.0.view (Some w) c.first.new.pass.seat.me.0.view c.in-Some.ensures.told) c.first.ensures.later (subst (λ (place : ℕ). Finds place (waiter_code (Some w)) c.args.pass.now c.first.new.pass) g.met.H.WakeHost.places.1 c.in-Some.ensures.found) c.args.kind (woken_tasks c.args.woken.now) w refl c.if-first.true c.in-Readers.is c.requires.may c.requires.empty

pub returns-in-ReadOwned-clause-on : goal.returns-in-ReadOwned-clause-on
returns-in-ReadOwned-clause-on g c = record { own = c.choose-in-ReadOwned.ensures.own; task = ap (λ p. p.task) (c.choose-in-ReadOwned.ensures.face ∙ c.first.ensures.face); goes_on = λ p t. c.choose-in-ReadOwned.ensures.goes_on p (c.first.ensures.on.goes_on p t); steps = let a = c.first.ensures.later in let b = c.choose-in-ReadOwned.ensures.looks.later in omega (arith, a, b) }

pub returns-in-ReadOwned-clause-wakes : goal.returns-in-ReadOwned-clause-wakes
returns-in-ReadOwned-clause-wakes g c = let w = c.in-Some.first in
    wakes-none-beside c.args.pass.now c.first.new.pass c.requires.rests (Some w) (finds-first g.H.ListHost.list g.H.ListHost.with_list g.met.H.WakeHost.list_parts.0 g.met.H.WakeHost.list_parts.1 c.args.pass.now.seat.me.0.view (Some w) c.first.new.pass.seat.me.0.view c.in-Some.ensures.told) c.first.ensures.later (subst (λ (place : ℕ). Finds place (waiter_code (Some w)) c.args.pass.now c.first.new.pass) g.met.H.WakeHost.places.1 c.in-Some.ensures.found) c.choose-in-ReadOwned.new.pass c.args.kind (woken_tasks c.args.woken.now) w refl c.if-first.true c.in-ReadOwned.is c.requires.may c.requires.empty c.choose-in-ReadOwned.ensures.looks c.choose-in-ReadOwned.ensures.goes_on

pub grant_unless_written-requires : goal.grant_unless_written-requires
grant_unless_written-requires g c = let first : Option Waiter = Some c.in-Some.first in let f = (finds-first g.H.ListHost.list g.H.ListHost.with_list g.met.H.WakeHost.list_parts.0 g.met.H.WakeHost.list_parts.1 c.args.pass.now.seat.me.0.view first c.first.new.pass.seat.me.0.view c.in-Some.ensures.told) in let found = (subst (λ (place : ℕ). Finds place (waiter_code first) c.args.pass.now c.first.new.pass) g.met.H.WakeHost.places.1 c.in-Some.ensures.found) in record {
  own = c.first.ensures.on.own;
  numbered = subst (λ (face : Face). IsSome face.task) (sym c.first.ensures.face) c.requires.numbered;
  held = ap (λ (z : V). z.spin.frame.point) f.view ∙ c.requires.held;
  rests = looked-rests c.args.pass.now c.first.new.pass c.requires.rests first f c.first.ensures.later found;
  list = looked-list c.args.pass.now c.first.new.pass c.requires.rests first f c.first.ensures.later found;
  first = looked-first c.args.pass.now c.first.new.pass c.requires.rests first f c.first.ensures.later found;
  task = c.in-Some.ensures.small;
  reader = c.if-first.false;
  may = still-out c.args.pass.now c.first.new.pass c.requires.rests first f c.first.ensures.later found c.args.kind c.in-Any-kind.is c.requires.may;
  empty = c.requires.empty;
}

pub returns-in-Any-kind : goal.returns-in-Any-kind
returns-in-Any-kind g c = let f = (finds-first g.H.ListHost.list g.H.ListHost.with_list g.met.H.WakeHost.list_parts.0 g.met.H.WakeHost.list_parts.1 c.args.pass.now.seat.me.0.view (Some c.in-Some.first) c.first.new.pass.seat.me.0.view c.in-Some.ensures.told) in let q = c.first.new.pass.seat.me.0.view.ext.list.list in let w = c.in-Some.first in let e = looked-first c.args.pass.now c.first.new.pass c.requires.rests (Some w) f c.first.ensures.later (subst (λ (place : ℕ). Finds place (waiter_code (Some w)) c.args.pass.now c.first.new.pass) g.met.H.WakeHost.places.1 c.in-Some.ensures.found) in record {
  on = record { own = c.grant_unless_written.ensures.on.own; task = ap (λ p. p.task) (c.grant_unless_written.ensures.face ∙ c.first.ensures.face); goes_on = λ p t. c.grant_unless_written.ensures.on.goes_on p (c.first.ensures.on.goes_on p t); steps = let a = c.first.ensures.later in let b = c.grant_unless_written.ensures.granted.beside.later in omega (arith, a, b) };
  wakes = wakes-readers c.args.pass.now c.first.new.pass c.requires.rests (Some w) f c.first.ensures.later (subst (λ (place : ℕ). Finds place (waiter_code (Some w)) c.args.pass.now c.first.new.pass) g.met.H.WakeHost.places.1 c.in-Some.ensures.found) c.grant_unless_written.new.pass c.args.kind c.grant_unless_written.result _ c.grant_unless_written.ensures.granted (first-reads q w e c.if-first.false) c.grant_unless_written.ensures.woken (λ owned. absurd (not-owned c.args.kind c.in-Any-kind.is owned)) (λ _. c.grant_unless_written.ensures.saw) c.first.ensures.on.goes_on c.grant_unless_written.ensures.on.goes_on;
  tasks = c.grant_unless_written.ensures.tasks;
  asked = c.grant_unless_written.ensures.asked;
  sleeps = c.grant_unless_written.ensures.sleeps;
  rescheds = c.grant_unless_written.ensures.rescheds;
}

pub returns-in-ReadOwned-kind-clause-on : goal.returns-in-ReadOwned-kind-clause-on
returns-in-ReadOwned-kind-clause-on g c = record { own = c.grant.ensures.on.own; task = ap (λ p. p.task) (c.grant.ensures.face ∙ c.first.ensures.face); goes_on = λ p t. c.grant.ensures.on.goes_on p (c.first.ensures.on.goes_on p t); steps = let a = c.first.ensures.later in let b = c.grant.ensures.granted.beside.later in omega (arith, a, b) }

pub returns-in-ReadOwned-kind-clause-wakes : goal.returns-in-ReadOwned-kind-clause-wakes
returns-in-ReadOwned-kind-clause-wakes g c = let f = (finds-first g.H.ListHost.list g.H.ListHost.with_list g.met.H.WakeHost.list_parts.0 g.met.H.WakeHost.list_parts.1 c.args.pass.now.seat.me.0.view (Some c.in-Some.first) c.first.new.pass.seat.me.0.view c.in-Some.ensures.told) in let q = c.first.new.pass.seat.me.0.view.ext.list.list in let w = c.in-Some.first in let e = looked-first c.args.pass.now c.first.new.pass c.requires.rests (Some w) f c.first.ensures.later (subst (λ (place : ℕ). Finds place (waiter_code (Some w)) c.args.pass.now c.first.new.pass) g.met.H.WakeHost.places.1 c.in-Some.ensures.found) in
    wakes-readers c.args.pass.now c.first.new.pass c.requires.rests (Some w) f c.first.ensures.later (subst (λ (place : ℕ). Finds place (waiter_code (Some w)) c.args.pass.now c.first.new.pass) g.met.H.WakeHost.places.1 c.in-Some.ensures.found) c.grant.new.pass c.args.kind false _ c.grant.ensures.granted (first-reads q w e c.if-first.false) c.grant.ensures.woken (λ _. refl) (λ other. absurd (other c.in-ReadOwned-kind.is)) c.first.ensures.on.goes_on c.grant.ensures.on.goes_on
