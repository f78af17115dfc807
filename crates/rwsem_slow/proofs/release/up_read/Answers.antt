use Rattle.std.proofs.Common.{◌∙◌, refl, sym, ap, subst, arith}
use Rattle.rwsem_slow.specs.Types.{Hand, No, Any}
use Rattle.lock_core.specs.Kinds.{semaphore, wakes_shared}
use Rattle.lock_core.specs.Records.{bit}
use Rattle.rwsem_wake.specs.RwSemViews.{V}
use Rattle.rwsem_slow.proofs.Ending.{leaves-spared, leaves-woken, turns-hold}
use Rattle.rwsem_wake.specs.RwSemPlaces.{seen_of}
use Rattle.rwsem_slow.proofs.Woken.{wakes-asked, wakes-spared}
use Rattle.rwsem_slow.proofs.release.up_read.Goals as goal

pub returns-then-is_left_to_waiters-clause-left : goal.returns-then-is_left_to_waiters-clause-left
returns-then-is_left_to_waiters-clause-left g c = let left = c.up_read-left.ensures.left in let k = c.up_read-left.ensures.kept in let s1 = ap (λ (z : V). z.steps) k in let freed = ap (λ (z : V). z.hand.freed) k in let sum = left.sum in
    leaves-woken (wakes_shared semaphore) No 256 0 left.word c.args.pass.now.seat.me.0.view c.up_read-left.new.pass.seat.me.0.view c.wake_waiters.new.pass.seat.me.0.view c.args.pass.now.seat.me.0.past c.wake_waiters.new.pass.seat.me.0.past (omega (arith, freed, sum)) (ap (λ (z : V). z.spin.entries) k) (turns-hold No left.word c.args.pass.now.seat.me.0.view c.up_read-left.new.pass.seat.me.0.view c.wake_waiters.new.pass.seat.me.0.view c.args.pass.now.seat.me.0.past c.up_read-left.new.pass.seat.me.0.past c.wake_waiters.new.pass.seat.me.0.past (ap (λ (z : V). z.hand.task) k) (ap (λ (z : V). z.hand.held) k) (omega (arith, s1)) c.wake_waiters.ensures.on.steps c.up_read-left.ensures.on.last left.found c.up_read-left.ensures.on.goes_on c.wake_waiters.ensures.on.goes_on (λ s later sooner. absurd (omega (arith, later, sooner, s1)))) (subst (wakes_shared semaphore) (sym freed) (c.is_left_to_waiters.ensures.0 c.if-is_left_to_waiters.true)) c.wake_waiters.ensures.went

pub returns-else-is_left_to_waiters-clause-left : goal.returns-else-is_left_to_waiters-clause-left
returns-else-is_left_to_waiters-clause-left g c = let left = c.up_read-left.ensures.left in let k = c.up_read-left.ensures.kept in let s1 = ap (λ (z : V). z.steps) k in let freed = ap (λ (z : V). z.hand.freed) k in let sum = left.sum in
    leaves-spared (wakes_shared semaphore) No 256 0 left.word c.args.pass.now.seat.me.0.view c.up_read-left.new.pass.seat.me.0.view c.up_read-left.new.pass.seat.me.0.view c.args.pass.now.seat.me.0.past c.up_read-left.new.pass.seat.me.0.past (omega (arith, freed, sum)) (ap (λ (z : V). z.spin.entries) k) (turns-hold No left.word c.args.pass.now.seat.me.0.view c.up_read-left.new.pass.seat.me.0.view c.up_read-left.new.pass.seat.me.0.view c.args.pass.now.seat.me.0.past c.up_read-left.new.pass.seat.me.0.past c.up_read-left.new.pass.seat.me.0.past (ap (λ (z : V). z.hand.task) k) (ap (λ (z : V). z.hand.held) k) (omega (arith, s1)) (omega arith) c.up_read-left.ensures.on.last left.found c.up_read-left.ensures.on.goes_on (λ p t. t) (λ s later sooner. absurd (omega (arith, later, sooner, s1)))) (λ w. absurd (let e = ap bit (sym c.if-is_left_to_waiters.false ∙ c.is_left_to_waiters.ensures.1 (subst (wakes_shared semaphore) freed w)) in omega (arith, e))) refl refl

pub returns-then-is_left_to_waiters-clause-woken : goal.returns-then-is_left_to_waiters-clause-woken
returns-then-is_left_to_waiters-clause-woken g c = let left = c.up_read-left.ensures.left in let k = c.up_read-left.ensures.kept in let s1 = ap (λ (z : V). z.steps) k in let freed = ap (λ (z : V). z.hand.freed) k in let u = seen_of c.wake_waiters.new.pass in
    wakes-asked (wakes_shared semaphore) No Any c.args.counts.now.wakes c.up_read-left.new.pass.seat.me.0.view.steps left.word (seen_of c.args.pass.now) (seen_of c.up_read-left.new.pass) u
    (subst (wakes_shared semaphore) (sym (ap (λ (h : Hand). h.freed) c.wake_waiters.ensures.went.hand ∙ freed)) (c.is_left_to_waiters.ensures.0 c.if-is_left_to_waiters.true))
    (turns-hold No left.word c.args.pass.now.seat.me.0.view c.up_read-left.new.pass.seat.me.0.view c.wake_waiters.new.pass.seat.me.0.view c.args.pass.now.seat.me.0.past c.up_read-left.new.pass.seat.me.0.past c.wake_waiters.new.pass.seat.me.0.past (ap (λ (z : V). z.hand.task) k) (ap (λ (z : V). z.hand.held) k) (omega (arith, s1)) c.wake_waiters.ensures.on.steps c.up_read-left.ensures.on.last left.found c.up_read-left.ensures.on.goes_on c.wake_waiters.ensures.on.goes_on (λ s later sooner. absurd (omega (arith, later, sooner, s1))))
    (ap (λ (z : V). z.hand.task) k) (omega arith) c.up_read-left.ensures.on.goes_on c.wake_waiters.new.counts.wakes c.wake_waiters.ensures.woken

pub returns-else-is_left_to_waiters-clause-woken : goal.returns-else-is_left_to_waiters-clause-woken
returns-else-is_left_to_waiters-clause-woken g c = let freed = ap (λ (z : V). z.hand.freed) c.up_read-left.ensures.kept in
    wakes-spared (wakes_shared semaphore) No Any c.args.counts.now.wakes c.args.counts.now.wakes (seen_of c.args.pass.now) (seen_of c.up_read-left.new.pass) (λ w. absurd (let e = ap bit (sym c.if-is_left_to_waiters.false ∙ c.is_left_to_waiters.ensures.1 (subst (wakes_shared semaphore) freed w)) in omega (arith, e))) refl
