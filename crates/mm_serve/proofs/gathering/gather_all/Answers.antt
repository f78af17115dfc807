use Rattle.std.proofs.Common.{◌≡◌, length, rules, subst, sym, ℕ}
use Rattle.mm_serve.specs.declared.worker.Worker.{Worker}
use Rattle.mm_serve.specs.Workers.{EachOf, KnowsFrom, TakesUp}
use Rattle.guarded.proofs.Gathered.{popped}
use Rattle.mm_serve.proofs.Gathers.{takes, on}
use Rattle.mm_serve.proofs.gathering.gather_all.Goals as goal

pub loop-worker-preserved : goal.loop-worker-preserved
loop-worker-preserved g c =
    let i = c.loop-worker.invariant in
    let ws = c.args.workers.items in
    let left = c.pop.new.self.items in
    let p = popped ws c.loop-worker.workers.items left c.in-Some.worker i.0 c.in-Some.ensures.items in
    let passes = subst (λ (w : Worker g.row.P.Denot g.row.S-Pass.Denot). length w.passes.items ≡ length c.args.sites.now) (sym p.1) (c.requires.workers (length left) c.in-Some.worker p.3).0 in (
      p.0,
      takes g.S.SharedObject.idle (TakesUp g.S.SharedObject.hand g.S.SharedObject.past g.S.SharedObject.spun) (on g.S.SharedObject.hand g.S.SharedObject.past g.S.SharedObject.spun) c.args.sites.now ws (length left) c.in-Some.worker c.loop-worker.gathered.items c.gather_passes.new.gathered.items i.1.0 passes p.3 p.1
          (subst (λ (m : ℕ). EachOf (λ k s p. g.S.SharedObject.idle s p × KnowsFrom (TakesUp g.S.SharedObject.hand g.S.SharedObject.past g.S.SharedObject.spun) m ws k p) c.args.sites.now c.loop-worker.gathered.items) p.2 i.1) c.gather_passes.ensures,
    )

pub returns : goal.returns
returns g c =
    let none : ◌≡◌ {A = ℕ} (length c.loop-worker.workers.items) 0 = search rules in
    subst (λ (m : ℕ). EachOf (λ k s p. g.S.SharedObject.idle s p × KnowsFrom (TakesUp g.S.SharedObject.hand g.S.SharedObject.past g.S.SharedObject.spun) m c.args.workers.items k p) c.args.sites.now c.loop-worker.gathered.items) none c.loop-worker.invariant.1
