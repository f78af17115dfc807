use Rattle.std.proofs.Common.{◌≡◌, ◌-◌, ◌∙◌, ℕ, suc, sym, ap, subst, arith}
use Rattle.osq_nodes.specs.OsqHandles.{FoundBy}
use Rattle.osq_nodes.specs.Words.{tail_at}
use Rattle.osq_nodes.specs.OsqRuled.{V}
use Rattle.osq_nodes.specs.Types.{Face}
use Rattle.osq_nodes.proofs.Owning.{found-by, swap-found}
use Rattle.osq_nodes.proofs.queue.Osq.enter.Goals as goal

pub returns-then-found-eq0-clause-found : goal.returns-then-found-eq0-clause-found
returns-then-found-eq0-clause-found c = let is = ap (λ (v : V). v.ext.found) c.swap_tail-found.ensures.kept ∙ swap-found c.clear_next.new.pass.pass.seat.me.0.view c.swap_tail-found.result in
    subst (λ (n : ℕ). FoundBy c.args.pass.now.pass.face.task c.args.pass.now.pass.seat.me.0.view.steps tail_at n c.args.pass.now.pass.seat.me.0.past c.swap_tail-found.new.pass.pass.seat.me.0.past) (sym is)
    (found-by c.args.pass.now.pass.face.task c.args.pass.now.pass.seat.me.0.view.steps tail_at c.swap_tail-found.result c.swap_tail-found.new.pass.pass.seat.me.0.view c.args.pass.now.pass.seat.me.0.past c.swap_tail-found.new.pass.pass.seat.me.0.past c.swap_tail-found.new.pass.pass.seat.me.0.past
    (sym c.swap_tail-found.ensures.on.own.sits.task ∙ ap (λ (f : Face). f.task) (c.swap_tail-found.ensures.on.number.0 ∙ (c.clear_next.ensures.on.number.0 ∙ c.clear_locked.ensures.on.number.0)))
    (let a = ap (λ (v : V). v.steps) c.swap_tail-found.ensures.kept in let b = ap (λ (v : V). v.steps) c.clear_next.ensures.kept in let d = ap (λ (v : V). v.steps) c.clear_locked.ensures.kept in omega (arith, a, b, d))
    c.swap_tail-found.ensures.on.last c.swap_tail-found.ensures.found (λ p t. c.swap_tail-found.ensures.on.goes_on p (c.clear_next.ensures.on.goes_on p (c.clear_locked.ensures.on.goes_on p t))) (λ p t. t))

pub overflow_cast-prev : goal.overflow_cast-prev
overflow_cast-prev c = let few = c.args.self.now.site.small.tasks in let f = c.if-found-eq0.false in let e : c.swap_tail-found.result ≡ suc (c.swap_tail-found.result - 1) = omega (arith, f) in let s = c.swap_tail-found.ensures.code (c.swap_tail-found.result - 1) e in omega (arith, s, few)

pub link-requires-clause-there : goal.link-requires-clause-there
link-requires-clause-there c = let f = c.if-found-eq0.false in let e : c.swap_tail-found.result ≡ suc (c.swap_tail-found.result - 1) = omega (arith, f) in c.swap_tail-found.ensures.code (c.swap_tail-found.result - 1) e

pub returns-clause-there : goal.returns-clause-there
returns-clause-there c = let f = c.if-found-eq0.false in let e : c.swap_tail-found.result ≡ suc (c.swap_tail-found.result - 1) = omega (arith, f) in c.swap_tail-found.ensures.code (c.swap_tail-found.result - 1) e

pub returns-clause-found : goal.returns-clause-found
returns-clause-found c = let swapped = ap (λ (v : V). v.ext.found) c.swap_tail-found.ensures.kept ∙ swap-found c.clear_next.new.pass.pass.seat.me.0.view c.swap_tail-found.result in
    let is = ap (λ (v : V). v.ext.found) c.link.ensures.kept ∙ (ap (λ (v : V). v.ext.found) c.store_prev.ensures.kept ∙ swapped) in
    subst (λ (n : ℕ). FoundBy c.args.pass.now.pass.face.task c.args.pass.now.pass.seat.me.0.view.steps tail_at n c.args.pass.now.pass.seat.me.0.past c.link.new.pass.pass.seat.me.0.past) (sym is)
    (found-by c.args.pass.now.pass.face.task c.args.pass.now.pass.seat.me.0.view.steps tail_at c.swap_tail-found.result c.swap_tail-found.new.pass.pass.seat.me.0.view c.args.pass.now.pass.seat.me.0.past c.swap_tail-found.new.pass.pass.seat.me.0.past c.link.new.pass.pass.seat.me.0.past
    (sym c.swap_tail-found.ensures.on.own.sits.task ∙ ap (λ (f : Face). f.task) (c.swap_tail-found.ensures.on.number.0 ∙ (c.clear_next.ensures.on.number.0 ∙ c.clear_locked.ensures.on.number.0)))
    (let a = ap (λ (v : V). v.steps) c.swap_tail-found.ensures.kept in let b = ap (λ (v : V). v.steps) c.clear_next.ensures.kept in let d = ap (λ (v : V). v.steps) c.clear_locked.ensures.kept in omega (arith, a, b, d))
    c.swap_tail-found.ensures.on.last c.swap_tail-found.ensures.found (λ p t. c.swap_tail-found.ensures.on.goes_on p (c.clear_next.ensures.on.goes_on p (c.clear_locked.ensures.on.goes_on p t))) (λ p t. c.link.ensures.on.goes_on p (c.store_prev.ensures.on.goes_on p t)))
