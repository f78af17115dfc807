use Rattle.std.proofs.Common.{rules, ◌≡◌, ◌≢◌, ◌∙◌, ◌<◌, ◌+◌, ℕ, length, ap, sym, refl, subst, arith}
use Rattle.std.proofs.lemmas.Option.{same_Some}
use Rattle.lock_core.specs.Pasts.{FoundAt}
use Rattle.percpu_rwsem.specs.PercpuHandles.{FindsZeros}
use Rattle.percpu_rwsem.specs.PercpuPlays.{TakesPhase, phased}
use Rattle.percpu_rwsem.specs.PercpuRuled.{V, count_at}
use Rattle.percpu_rwsem.specs.Types.{Alone, Blocks}
use Rattle.percpu_rwsem.proofs.Calling.{drained-one, zeros-next, zeros-stay}
use Rattle.percpu_rwsem.proofs.site.PercpuRwSem.drain.Goals as goal

pub returns-then-is_err-clause-zero_below : goal.returns-then-is_err-clause-zero_below
returns-then-is_err-clause-zero_below g c = let v = c.args.pass.now.pass.seat.me.0.view in let old = c.args.pass.now.pass.seat.me.0.past in let past = c.loop-next.pass.pass.seat.me.0.past in let new = c.drain.new.pass.seat.me.0.past in
    λ first is. subst (λ (f : ℕ). FindsZeros f c.loop-next.next v old new) (same_Some c.in-Some-seen.first first (sym c.in-Some-seen.is ∙ is))
    (zeros-stay c.in-Some-seen.first c.loop-next.next v old past new c.drain.ensures.on.goes_on (c.loop-next.invariant.5).zeros)

pub loop-next-preserved : goal.loop-next-preserved
loop-next-preserved g c = let k = c.args.self.now.site.table.shared.key in let first = c.in-Some-seen.first in let n = c.loop-next.next in let v = c.args.pass.now.pass.seat.me.0.view in let x = c.loop-next.pass.pass.seat.me.0.view in let w = c.drain.new.pass.seat.me.0.view in
    let old = c.args.pass.now.pass.seat.me.0.past in let past = c.loop-next.pass.pass.seat.me.0.past in let new = c.drain.new.pass.seat.me.0.past in let i = c.loop-next.invariant in let d = i.5 in
    let less : n < length k = let t = c.loop-next-test.true in let e = i.1 in omega (arith, t, e) in
    let on = d.on less in
    let next : n + 1 ≢ length k → w ≡ phased x x.hand (Blocks (n + 1)) = search rules in
    let took : n + 1 ≡ length k → TakesPhase g.O.Object.object k Alone (Blocks (n + 1)) x w = search rules in
    let free : FoundAt (count_at n) 0 new = search rules in
    let one = drained-one g.O.Object.object k (n + 1) x w next took in
    let steps = one.0 in let so_far = d.looks in let from = i.2 in
    let looks : w.steps + first ≡ v.steps + (n + 1) = omega (arith, steps, so_far) in
    let named : w.hand.task ≡ v.hand.task = one.1 ∙ ap (λ (z : V). z.hand.task) on.1.2 in (
      omega (arith, less, i.1),
      i.1,
      omega (arith, from),
      search rules,
      c.drain.ensures.on.own,
      record {
        seen_is = refl;
        goes_on = λ p t. c.drain.ensures.on.goes_on p (d.goes_on p t);
        last = λ _. c.drain.ensures.on.last;
        on = search rules;
        all = search rules;
        looks = looks;
        zeros = zeros-next first n v w old past new named looks c.drain.ensures.on.last free d.goes_on c.drain.ensures.on.goes_on d.zeros;
      },
    )
