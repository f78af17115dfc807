use Rattle.std.proofs.Common.{◌∙◌, refl, sym, ap, subst, arith}
use Rattle.rwsem_slow.specs.Types.{Hand, No, Any}
use Rattle.lock_core.specs.Kinds.{semaphore, wakes_alone}
use Rattle.lock_core.specs.Records.{bit}
use Rattle.rwsem_wake.specs.RwSemViews.{V}
use Rattle.rwsem_slow.proofs.Ending.{leaves-hold, leaves-spared, leaves-woken, turns-hold}
use Rattle.rwsem_wake.specs.RwSemPlaces.{seen_of}
use Rattle.rwsem_slow.proofs.Woken.{wakes-asked, wakes-spared}
use Rattle.rwsem_slow.proofs.release.up_write.Goals as goal

pub returns-then-has_waiters-clause-left : goal.returns-then-has_waiters-clause-left
returns-then-has_waiters-clause-left g c = let left = c.up_write-left.ensures.left in let k = c.up_write-left.ensures.kept in let hint = c.set_hint.ensures.kept in let s1 = ap (λ (z : V). z.steps) k in let s2 = ap (λ (z : V). z.steps) hint in let freed = ap (λ (z : V). z.hand.freed) k in let sum = left.sum in
    leaves-woken (wakes_alone semaphore) No 1 0 left.word c.args.pass.now.seat.me.0.view c.up_write-left.new.pass.seat.me.0.view c.wake_waiters.new.pass.seat.me.0.view c.args.pass.now.seat.me.0.past c.wake_waiters.new.pass.seat.me.0.past (omega (arith, freed, sum)) (ap (λ (z : V). z.spin.entries) k ∙ ap (λ (z : V). z.spin.entries) hint) (turns-hold No left.word c.args.pass.now.seat.me.0.view c.up_write-left.new.pass.seat.me.0.view c.wake_waiters.new.pass.seat.me.0.view c.args.pass.now.seat.me.0.past c.up_write-left.new.pass.seat.me.0.past c.wake_waiters.new.pass.seat.me.0.past (ap (λ (z : V). z.hand.task) k ∙ ap (λ (z : V). z.hand.task) hint) (ap (λ (z : V). z.hand.held) k) (omega (arith, s1, s2)) c.wake_waiters.ensures.on.steps c.up_write-left.ensures.on.last left.found (λ p t. c.up_write-left.ensures.on.goes_on p (c.set_hint.ensures.on.goes_on p t)) c.wake_waiters.ensures.on.goes_on (λ s later sooner. leaves-hold c.args.pass.now.seat.me.0.view c.set_hint.new.pass.seat.me.0.view c.wake_waiters.new.pass.seat.me.0.view c.args.pass.now.seat.me.0.past c.set_hint.new.pass.seat.me.0.past c.wake_waiters.new.pass.seat.me.0.past s (ap (λ (z : V). z.hand) hint) (omega (arith, later, sooner, s1, s2)) c.set_hint.ensures.on.last c.set_hint.ensures.on.goes_on (λ p t. c.wake_waiters.ensures.on.goes_on p (c.up_write-left.ensures.on.goes_on p t)))) (subst (wakes_alone semaphore) (sym freed) (c.has_waiters.ensures.0 c.if-has_waiters.true)) c.wake_waiters.ensures.went

pub returns-else-has_waiters-clause-left : goal.returns-else-has_waiters-clause-left
returns-else-has_waiters-clause-left g c = let left = c.up_write-left.ensures.left in let k = c.up_write-left.ensures.kept in let hint = c.set_hint.ensures.kept in let s1 = ap (λ (z : V). z.steps) k in let s2 = ap (λ (z : V). z.steps) hint in let freed = ap (λ (z : V). z.hand.freed) k in let sum = left.sum in
    leaves-spared (wakes_alone semaphore) No 1 0 left.word c.args.pass.now.seat.me.0.view c.up_write-left.new.pass.seat.me.0.view c.up_write-left.new.pass.seat.me.0.view c.args.pass.now.seat.me.0.past c.up_write-left.new.pass.seat.me.0.past (omega (arith, freed, sum)) (ap (λ (z : V). z.spin.entries) k ∙ ap (λ (z : V). z.spin.entries) hint) (turns-hold No left.word c.args.pass.now.seat.me.0.view c.up_write-left.new.pass.seat.me.0.view c.up_write-left.new.pass.seat.me.0.view c.args.pass.now.seat.me.0.past c.up_write-left.new.pass.seat.me.0.past c.up_write-left.new.pass.seat.me.0.past (ap (λ (z : V). z.hand.task) k ∙ ap (λ (z : V). z.hand.task) hint) (ap (λ (z : V). z.hand.held) k) (omega (arith, s1, s2)) (omega arith) c.up_write-left.ensures.on.last left.found (λ p t. c.up_write-left.ensures.on.goes_on p (c.set_hint.ensures.on.goes_on p t)) (λ p t. t) (λ s later sooner. leaves-hold c.args.pass.now.seat.me.0.view c.set_hint.new.pass.seat.me.0.view c.up_write-left.new.pass.seat.me.0.view c.args.pass.now.seat.me.0.past c.set_hint.new.pass.seat.me.0.past c.up_write-left.new.pass.seat.me.0.past s (ap (λ (z : V). z.hand) hint) (omega (arith, later, sooner, s1, s2)) c.set_hint.ensures.on.last c.set_hint.ensures.on.goes_on c.up_write-left.ensures.on.goes_on)) (λ w. absurd (let e = ap bit (sym c.if-has_waiters.false ∙ c.has_waiters.ensures.1 (subst (wakes_alone semaphore) freed w)) in omega (arith, e))) refl refl

pub returns-then-has_waiters-clause-woken : goal.returns-then-has_waiters-clause-woken
returns-then-has_waiters-clause-woken g c = let left = c.up_write-left.ensures.left in let k = c.up_write-left.ensures.kept in let hint = c.set_hint.ensures.kept in let s1 = ap (λ (z : V). z.steps) k in let s2 = ap (λ (z : V). z.steps) hint in let freed = ap (λ (z : V). z.hand.freed) k in let u = seen_of c.wake_waiters.new.pass in
    wakes-asked (wakes_alone semaphore) No Any c.args.counts.now.wakes c.up_write-left.new.pass.seat.me.0.view.steps left.word (seen_of c.args.pass.now) (seen_of c.up_write-left.new.pass) u
    (subst (wakes_alone semaphore) (sym (ap (λ (h : Hand). h.freed) c.wake_waiters.ensures.went.hand ∙ freed)) (c.has_waiters.ensures.0 c.if-has_waiters.true))
    (turns-hold No left.word c.args.pass.now.seat.me.0.view c.up_write-left.new.pass.seat.me.0.view c.wake_waiters.new.pass.seat.me.0.view c.args.pass.now.seat.me.0.past c.up_write-left.new.pass.seat.me.0.past c.wake_waiters.new.pass.seat.me.0.past (ap (λ (z : V). z.hand.task) k ∙ ap (λ (z : V). z.hand.task) hint) (ap (λ (z : V). z.hand.held) k) (omega (arith, s1, s2)) c.wake_waiters.ensures.on.steps c.up_write-left.ensures.on.last left.found (λ p t. c.up_write-left.ensures.on.goes_on p (c.set_hint.ensures.on.goes_on p t)) c.wake_waiters.ensures.on.goes_on (λ s later sooner. leaves-hold c.args.pass.now.seat.me.0.view c.set_hint.new.pass.seat.me.0.view c.wake_waiters.new.pass.seat.me.0.view c.args.pass.now.seat.me.0.past c.set_hint.new.pass.seat.me.0.past c.wake_waiters.new.pass.seat.me.0.past s (ap (λ (z : V). z.hand) hint) (omega (arith, later, sooner, s1, s2)) c.set_hint.ensures.on.last c.set_hint.ensures.on.goes_on (λ p t. c.wake_waiters.ensures.on.goes_on p (c.up_write-left.ensures.on.goes_on p t))))
    (ap (λ (z : V). z.hand.task) k ∙ ap (λ (z : V). z.hand.task) hint) (omega arith) (λ p t. c.up_write-left.ensures.on.goes_on p (c.set_hint.ensures.on.goes_on p t)) c.wake_waiters.new.counts.wakes c.wake_waiters.ensures.woken

pub returns-else-has_waiters-clause-woken : goal.returns-else-has_waiters-clause-woken
returns-else-has_waiters-clause-woken g c = let freed = ap (λ (z : V). z.hand.freed) c.up_write-left.ensures.kept in
    wakes-spared (wakes_alone semaphore) No Any c.args.counts.now.wakes c.args.counts.now.wakes (seen_of c.args.pass.now) (seen_of c.up_write-left.new.pass) (λ w. absurd (let e = ap bit (sym c.if-has_waiters.false ∙ c.has_waiters.ensures.1 (subst (wakes_alone semaphore) freed w)) in omega (arith, e))) refl
