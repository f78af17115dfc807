use Rattle.std.proofs.Common.{◌∙◌, ◌+◌, sym, ap, subst, arith, refl}
use Rattle.rwsem_slow.specs.Types.{Hand, Shared, ReadOwned}
use Rattle.lock_core.specs.Kinds.{semaphore, wakes_down}
use Rattle.lock_core.specs.Records.{bit}
use Rattle.rwsem_wake.specs.RwSemViews.{V}
use Rattle.rwsem_slow.proofs.Ending.{leaves-spared, leaves-woken, turns-hold}
use Rattle.rwsem_wake.specs.RwSemPlaces.{seen_of}
use Rattle.rwsem_slow.proofs.Woken.{wakes-asked, wakes-spared}
use Rattle.rwsem_slow.proofs.release.downgrade_write.Goals as goal

pub reader_hint-requires : goal.reader_hint-requires
reader_hint-requires g c = let l = (c.requires.own.planned c.in-Some.me (sym c.task.ensures ∙ c.in-Some.is)).0 in let few = c.args.site.now.small.tasks in omega (arith, l, few)

pub returns-then-has_waiters-clause-left : goal.returns-then-has_waiters-clause-left
returns-then-has_waiters-clause-left g c = let left = c.downgrade-left.ensures.left in let k = c.downgrade-left.ensures.kept in let s1 = ap (λ (z : V). z.steps) k in let freed = ap (λ (z : V). z.hand.freed) k in let sum = left.sum in let h = c.set_hint.ensures.kept in let s3 = ap (λ (z : V). z.steps) h in
    leaves-woken (wakes_down semaphore) Shared 0 255 left.word c.args.pass.now.seat.me.0.view c.downgrade-left.new.pass.seat.me.0.view c.wake_waiters.new.pass.seat.me.0.view c.args.pass.now.seat.me.0.past c.wake_waiters.new.pass.seat.me.0.past (omega (arith, freed, sum)) (ap (λ (z : V). z.spin.entries) k) (turns-hold Shared left.word c.args.pass.now.seat.me.0.view c.downgrade-left.new.pass.seat.me.0.view c.wake_waiters.new.pass.seat.me.0.view c.args.pass.now.seat.me.0.past c.downgrade-left.new.pass.seat.me.0.past c.wake_waiters.new.pass.seat.me.0.past (ap (λ (z : V). z.hand.task) k) (ap (λ (z : V). z.hand.held) k) (omega (arith, s1)) (let s = c.wake_waiters.ensures.on.steps in omega (arith, s, s3)) c.downgrade-left.ensures.on.last left.found c.downgrade-left.ensures.on.goes_on (λ p t. c.wake_waiters.ensures.on.goes_on p (c.set_hint.ensures.on.goes_on p t)) (λ s later sooner. absurd (omega (arith, later, sooner, s1)))) (subst (wakes_down semaphore) (sym freed) (c.has_waiters.ensures.0 c.if-has_waiters.true)) (record { hand = c.wake_waiters.ensures.went.hand ∙ ap (λ (z : V). z.hand) h; entries = c.wake_waiters.ensures.went.entries ∙ ap (λ (z : V). z.spin.entries + 1) h; fronts = c.wake_waiters.ensures.went.fronts ∙ ap (λ (z : V). z.fronts) h; appends = c.wake_waiters.ensures.went.appends ∙ ap (λ (z : V). z.ext.appends) h })

pub returns-else-has_waiters-clause-left : goal.returns-else-has_waiters-clause-left
returns-else-has_waiters-clause-left g c = let left = c.downgrade-left.ensures.left in let k = c.downgrade-left.ensures.kept in let s1 = ap (λ (z : V). z.steps) k in let freed = ap (λ (z : V). z.hand.freed) k in let sum = left.sum in let h = c.set_hint.ensures.kept in let s3 = ap (λ (z : V). z.steps) h in
    leaves-spared (wakes_down semaphore) Shared 0 255 left.word c.args.pass.now.seat.me.0.view c.downgrade-left.new.pass.seat.me.0.view c.set_hint.new.pass.seat.me.0.view c.args.pass.now.seat.me.0.past c.set_hint.new.pass.seat.me.0.past (omega (arith, freed, sum)) (ap (λ (z : V). z.spin.entries) k) (turns-hold Shared left.word c.args.pass.now.seat.me.0.view c.downgrade-left.new.pass.seat.me.0.view c.set_hint.new.pass.seat.me.0.view c.args.pass.now.seat.me.0.past c.downgrade-left.new.pass.seat.me.0.past c.set_hint.new.pass.seat.me.0.past (ap (λ (z : V). z.hand.task) k) (ap (λ (z : V). z.hand.held) k) (omega (arith, s1)) (omega (arith, s3)) c.downgrade-left.ensures.on.last left.found c.downgrade-left.ensures.on.goes_on c.set_hint.ensures.on.goes_on (λ s later sooner. absurd (omega (arith, later, sooner, s1)))) (λ w. absurd (let e = ap bit (sym c.if-has_waiters.false ∙ c.has_waiters.ensures.1 (subst (wakes_down semaphore) freed w)) in omega (arith, e))) (ap (λ (z : V). z.hand) h) (ap (λ (z : V). z.spin.entries) h)

pub returns-then-has_waiters-clause-woken : goal.returns-then-has_waiters-clause-woken
returns-then-has_waiters-clause-woken g c = let left = c.downgrade-left.ensures.left in let k = c.downgrade-left.ensures.kept in let h = c.set_hint.ensures.kept in let s1 = ap (λ (z : V). z.steps) k in let s3 = ap (λ (z : V). z.steps) h in let freed = ap (λ (z : V). z.hand.freed) h ∙ ap (λ (z : V). z.hand.freed) k in let u = seen_of c.wake_waiters.new.pass in
    wakes-asked (wakes_down semaphore) Shared ReadOwned c.args.counts.now.wakes c.downgrade-left.new.pass.seat.me.0.view.steps left.word (seen_of c.args.pass.now) (seen_of c.set_hint.new.pass) u
    (subst (wakes_down semaphore) (sym (ap (λ (h : Hand). h.freed) c.wake_waiters.ensures.went.hand ∙ freed)) (c.has_waiters.ensures.0 c.if-has_waiters.true))
    (turns-hold Shared left.word c.args.pass.now.seat.me.0.view c.downgrade-left.new.pass.seat.me.0.view c.wake_waiters.new.pass.seat.me.0.view c.args.pass.now.seat.me.0.past c.downgrade-left.new.pass.seat.me.0.past c.wake_waiters.new.pass.seat.me.0.past (ap (λ (z : V). z.hand.task) k) (ap (λ (z : V). z.hand.held) k) (omega (arith, s1)) (let s = c.wake_waiters.ensures.on.steps in omega (arith, s, s3)) c.downgrade-left.ensures.on.last left.found c.downgrade-left.ensures.on.goes_on (λ p t. c.wake_waiters.ensures.on.goes_on p (c.set_hint.ensures.on.goes_on p t)) (λ s later sooner. absurd (omega (arith, later, sooner, s1))))
    (ap (λ (z : V). z.hand.task) h ∙ ap (λ (z : V). z.hand.task) k) (omega (arith, s3)) (λ p t. c.set_hint.ensures.on.goes_on p (c.downgrade-left.ensures.on.goes_on p t)) c.wake_waiters.new.counts.wakes c.wake_waiters.ensures.woken

pub returns-else-has_waiters-clause-woken : goal.returns-else-has_waiters-clause-woken
returns-else-has_waiters-clause-woken g c = let freed = ap (λ (z : V). z.hand.freed) c.set_hint.ensures.kept ∙ ap (λ (z : V). z.hand.freed) c.downgrade-left.ensures.kept in
    wakes-spared (wakes_down semaphore) Shared ReadOwned c.args.counts.now.wakes c.args.counts.now.wakes (seen_of c.args.pass.now) (seen_of c.set_hint.new.pass) (λ w. absurd (let e = ap bit (sym c.if-has_waiters.false ∙ c.has_waiters.ensures.1 (subst (wakes_down semaphore) freed w)) in omega (arith, e))) refl
