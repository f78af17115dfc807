use Rattle.std.proofs.Common.{◌≡◌, ℕ, ◌<◌, length, sym, subst, arith, rules}
use Rattle.lock_core.specs.Kinds.{unavailable}
use Rattle.guarded.proofs.Gathered.{all-gathered, popped}
use Rattle.plan_runs.specs.CallsBetween.{PassHasDone}
use Rattle.plan_runs.proofs.Gathered.{one-more}
use Rattle.plan_runs.proofs.at_once.gather_all.Goals as goal

pub loop-pass-preserved : goal.loop-pass-preserved
loop-pass-preserved g c =
    let o = g.O.Object.object in
    let u = unavailable g.L.SleepLock.kind in
    let k = g.L.SiteLock.calls_on c.args.guarded.now.lock in
    let i = c.loop-pass.invariant in
    let left = c.pop.new.self.items in
    let member : g.row.L-Pass.Denot × g.row.P.Denot = (c.in-Some.pass, c.in-Some.field-0-1) in
    let p = popped c.args.members.items c.loop-pass.members.items left member i.0 c.in-Some.ensures.items in
    let all = c.requires.done.0 in
    let below : length left < length k = omega (arith, all, p.3) in
    let did = subst (λ (m : g.row.L-Pass.Denot × g.row.P.Denot). PassHasDone o u k (g.L.SiteLock.sits c.args.guarded.now.lock) g.L.SiteLock.view (length left) m.0) (sym p.1) (c.requires.done.1 (length left) member below) in (
      p.0,
      c.gather.ensures.on.own,
      search rules,
      one-more o u k (g.L.SiteLock.view c.loop-pass.into).hand (g.L.SiteLock.view c.gather.new.into).hand (length left) (length c.loop-pass.members.items) (length c.args.members.items) p.2 c.gather.ensures.done
          (did.calls.made, c.gather.ensures.done_by_other (length left) did.calls.made did.calls.done, did.calls.all) i.3,
    )

pub returns-clause-gathered : goal.returns-clause-gathered
returns-clause-gathered g c =
    let none : ◌≡◌ {A = ℕ} (length c.loop-pass.members.items) 0 = search rules in
    let all = c.requires.done.0 in
    all-gathered g.O.Object.object (unavailable g.L.SleepLock.kind) (g.L.SiteLock.calls_on c.args.guarded.now.lock) (g.L.SiteLock.view c.loop-pass.into).hand
    (λ t l. c.loop-pass.invariant.3 t (omega (arith, none)) (omega (arith, all, l)))
