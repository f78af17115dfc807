use Rattle.std.proofs.Common.{◌≡◌, ◌<◌, length, arith, rules, subst, ℕ}
use Rattle.mm_serve.specs.Workers.{HaveGathered, TakesUp}
use Rattle.guarded.proofs.Gathered.{popped}
use Rattle.mm_serve.proofs.Gathers.{gathers}
use Rattle.mm_serve.proofs.gathering.gather_passes.Goals as goal

pub loop-pass-preserved : goal.loop-pass-preserved
loop-pass-preserved g c =
    let i = c.loop-pass.invariant in
    let sites = c.args.sites.now in
    let old = c.args.gathered.now.items in
    let others = c.args.passes.items in
    let now = c.loop-pass.gathered.items in
    let left = c.pop.new.self.items in
    let p = popped others c.loop-pass.passes.items left c.in-Some.pass i.0 c.in-Some.ensures.items in
    let n : c.len-object.result ≡ length left = search rules in
    let below : length left < length sites = omega (arith, i.1, p.2) in (
      p.0,
      omega (arith, i.1, p.2),
      rw n (gathers g.S.SharedObject.idle (TakesUp g.S.SharedObject.hand g.S.SharedObject.past g.S.SharedObject.spun) sites old others now (length left) c.index-sites-object.result c.index_mut.result.now c.in-Some.pass c.gather.new.into c.requires.gathered.0 c.requires.passes.0
          (subst (λ (m : ℕ). HaveGathered g.S.SharedObject.idle (TakesUp g.S.SharedObject.hand g.S.SharedObject.past g.S.SharedObject.spun) m sites old others now) p.2 i.2) below
          (rw n at c.index-sites-object.is) (rw n at c.index_mut.ensures.value) p.1 c.gather.ensures.own (c.gather.ensures.kept, c.gather.ensures.goes_on, c.gather.ensures.queue) (c.gather.ensures.taken, c.gather.ensures.others_past, c.gather.ensures.others_queue)),
    )

pub returns : goal.returns
returns g c =
    let none : ◌≡◌ {A = ℕ} (length c.loop-pass.passes.items) 0 = search rules in
    subst (λ (m : ℕ). HaveGathered g.S.SharedObject.idle (TakesUp g.S.SharedObject.hand g.S.SharedObject.past g.S.SharedObject.spun) m c.args.sites.now c.args.gathered.now.items c.args.passes.items c.loop-pass.gathered.items) none c.loop-pass.invariant.2
