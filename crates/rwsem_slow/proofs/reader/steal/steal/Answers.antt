use Rattle.std.proofs.Common.{◌∙◌, ℕ, sym, ap, subst, arith, length}
use Rattle.lock_core.specs.Pasts.{IsOwnStep, Tail}
use Rattle.lock_core.specs.Records.{bit}
use Rattle.lock_core.proofs.Sitting.{sits-on, sits-took, some-number}
use Rattle.rwsem_wake.proofs.Holding.{holds-by}
use Rattle.rwsem_wake.specs.RwSemViews.{V, with_sem, with_wake}
use Rattle.rwsem_slow.specs.RwSems.{biased}
use Rattle.rwsem_slow.specs.Stealing.{MaySteal}
use Rattle.rwsem_slow.specs.Types.{Face, Shared, Clear, SemHand}
use Rattle.rwsem_slow.proofs.BiasHolds.{next-leaves, steals, stolen}
use Rattle.rwsem_wake.proofs.Hinting.{hint-there}
use Rattle.rwsem_slow.proofs.reader.steal.steal.Goals as goal

pub step-hint-requires-clause-there : goal.step-hint-requires-clause-there
step-hint-requires-clause-there g c = hint-there (length c.args.site.now.table.shared.key)

pub step-hint-requires-clause-lets : goal.step-hint-requires-clause-lets
step-hint-requires-clause-lets g c = let own = some-number c.args.pass.now.face.task c.requires.numbered in
    steals g.O.Object.object g.O.Object.WORDS c.args.site.now.table.shared.key _ _ own.0 c.requires.transit.transit.0 _ (sym c.requires.own.task ∙ own.1) (sym c.requires.own.held ∙ c.requires.out) (ap (λ (s : SemHand). s.wait) c.requires.transit.transit.1) (ap (λ (s : SemHand). s.bias) c.requires.transit.transit.1) (ap (λ (s : SemHand). s.rest) c.requires.transit.transit.1) (ap (λ (s : SemHand). s.stage) c.requires.transit.transit.1) c.requires.transit.done.clear

pub returns-then-may_steal-clause-own : goal.returns-then-may_steal-clause-own
returns-then-may_steal-clause-own g c = let gets = c.step-hint.ensures.told.0 (subst (λ (z : ℕ). MaySteal z c.step-hint.result) c.requires.left (c.may_steal.ensures.0 c.if-may_steal.true)) in
    sits-took {me = c.args.pass.now.seat.me} Shared gets.0 gets.1 _ (ap (λ s. s.me.0.view) c.set_held.ensures.seat ∙ gets.3.0) ((gets.2 c.args.site.now.table.shared.key c.requires.own.plan).within) c.requires.out c.requires.numbered (ap (λ s. s.table_id) c.set_held.ensures.seat ∙ c.step-hint.ensures.own.0) (ap (λ s. s.me.1) c.set_held.ensures.seat ∙ gets.3.1)
    (c.set_held.ensures.face ∙ ap (λ (f : Face). record f { held = Shared }) c.step-hint.ensures.face) c.requires.own

pub returns-then-may_steal-clause-took : goal.returns-then-may_steal-clause-took
returns-then-may_steal-clause-took g c = λ is. stolen g.O.Object.object c.args.site.now.table.shared.key c.args.pass.now.seat.me.0.view c.set_held.new.self.seat.me.0.view c.requires.transit
    (holds-by with_sem with_wake g.O.Object.object c.args.site.now.table.shared.key Shared _ _ c.args.pass.now.seat.me c.step-hint.new.pass.seat.me c.set_held.new.self.seat.me.0.view c.requires.own.plan (ap (λ s. s.me.0.view) c.set_held.ensures.seat)
    (c.step-hint.ensures.told.0 (subst (λ (z : ℕ). MaySteal z c.step-hint.result) c.requires.left (c.may_steal.ensures.0 c.if-may_steal.true))))

pub returns-then-may_steal-clause-let_in : goal.returns-then-may_steal-clause-let_in
returns-then-may_steal-clause-let_in g c = λ is. (c.may_steal.ensures.0 c.if-may_steal.true).0

pub returns-then-may_steal-clause-held : goal.returns-then-may_steal-clause-held
returns-then-may_steal-clause-held g c = λ is. let gets = c.step-hint.ensures.told.0 (subst (λ (z : ℕ). MaySteal z c.step-hint.result) c.requires.left (c.may_steal.ensures.0 c.if-may_steal.true)) in
    let view = ap (λ s. s.me.0.view) c.set_held.ensures.seat ∙ gets.3.0 in next-leaves Shared c.args.pass.now.seat.me.0.view c.set_held.new.self.seat.me.0.view c.args.pass.now.seat.me.0.past c.set_held.new.self.seat.me.0.past
    (ap (λ (z : V). z.steps) view) (ap (λ (z : V). z.hand.task) view) (ap (λ (z : V). z.hand.held) view) (subst (λ s. IsOwnStep s.me.0.view s.me.0.past) (sym c.set_held.ensures.seat) c.step-hint.ensures.last)
    (λ p t. subst (Tail p) (sym (ap (λ s. s.me.0.past) c.set_held.ensures.seat)) (c.step-hint.ensures.goes_on p t))

pub returns-then-may_steal-clause-goes_on : goal.returns-then-may_steal-clause-goes_on
returns-then-may_steal-clause-goes_on g c = λ p t. subst (Tail p) (sym (ap (λ s. s.me.0.past) c.set_held.ensures.seat)) (c.step-hint.ensures.goes_on p t)

pub returns-clause-own : goal.returns-clause-own
returns-clause-own g c = let turn = c.step-hint.ensures.told.1 (λ m. absurd (let e = ap bit (sym c.if-may_steal.false ∙ c.may_steal.ensures.1 (subst (λ (z : ℕ). MaySteal z c.step-hint.result) (sym c.requires.left) m)) in omega (arith, e))) in
    sits-on c.step-hint.ensures.own.0 turn.1 (ap (λ v. v.hand) turn.0) (let n = ap (λ v. v.steps) turn.0 in omega (arith, n)) c.step-hint.ensures.face c.requires.own

pub returns-clause-missed : goal.returns-clause-missed
returns-clause-missed g c = λ is. (c.step-hint.ensures.told.1 (λ m. absurd (let e = ap bit (sym c.if-may_steal.false ∙ c.may_steal.ensures.1 (subst (λ (z : ℕ). MaySteal z c.step-hint.result) (sym c.requires.left) m)) in omega (arith, e)))).0
