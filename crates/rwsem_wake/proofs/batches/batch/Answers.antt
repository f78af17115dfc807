use Rattle.std.proofs.Common.{◌∙◌, ◌+◌, sym, ap, arith, subst, List, ℕ}
use Rattle.rwsem_wake.proofs.Batching.{Has, has-skipped, has-picked, has-all, has-full, is-batch, reader-first}
use Rattle.rwsem_wake.proofs.batches.batch.Goals.{then-not-waiter, else-not-waiter}
use Rattle.rwsem_wake.proofs.batches.batch.Goals as goal

pub loop-waiter-preserved : goal.loop-waiter-preserved
loop-waiter-preserved c = elim c.if-not-waiter.branch [
  | then-not-waiter w ↦ subst (λ (z : List ℕ). Has c.args.limit c.args.list.now (c.loop-waiter.waiter-index + 1) z) (sym (ap (λ v. v.items) w.out-is ∙ w.push.ensures.items)) (has-picked c.args.limit c.args.list.now c.loop-waiter.waiter-index c.loop-waiter.out.items _ (omega arith) (omega arith) w.if-not-waiter.true c.loop-waiter.invariant)
  | else-not-waiter w ↦ subst (λ (z : List ℕ). Has c.args.limit c.args.list.now (c.loop-waiter.waiter-index + 1) z) (sym (ap (λ v. v.items) w.out-is)) (has-skipped c.args.limit c.args.list.now c.loop-waiter.waiter-index c.loop-waiter.out.items _ (omega arith) w.if-not-waiter.false c.loop-waiter.invariant)
]

pub returns-after-loop-waiter : goal.returns-after-loop-waiter
returns-after-loop-waiter c = is-batch c.args.limit c.args.list.now c.loop-waiter.out.items (reader-first c.args.list.now c.in-Some.first.now (sym c.in-Some.ensures.value) c.if-not-first.true) (has-all c.args.limit c.args.list.now c.loop-waiter.waiter-index c.loop-waiter.out.items (omega arith) c.loop-waiter.invariant)

pub returns-then-len-limit : goal.returns-then-len-limit
returns-then-len-limit c = is-batch c.args.limit c.args.list.now c.loop-waiter.out.items (reader-first c.args.list.now c.in-Some.first.now (sym c.in-Some.ensures.value) c.if-not-first.true) (has-full c.args.limit c.args.list.now c.loop-waiter.waiter-index c.loop-waiter.out.items (omega arith) c.loop-waiter.invariant)
