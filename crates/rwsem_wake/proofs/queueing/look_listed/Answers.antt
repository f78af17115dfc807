use Rattle.std.proofs.Common.{◌∙◌, sym, ap, arith, subst, length}
use Rattle.word_bits.specs.LockWords.{IsLawfulCount}
use Rattle.lock_core.proofs.Sitting.{has-number, sits-on, some-number}
use Rattle.rwsem_wake.proofs.WakeKinds.{wakes-listed}
use Rattle.rwsem_wake.specs.Grants.{sem_part}
use Rattle.rwsem_wake.specs.Duties.{saw_count}
use Rattle.rwsem_wake.proofs.Stepping.{count-attends}
use Rattle.rwsem_wake.proofs.QueueSteps.{on-listed, on-stay}
use Rattle.rwsem_wake.specs.GrantQueues.{KnowsSome}
use Rattle.rwsem_wake.specs.Types.{Load}
use Rattle.lock_core.specs.Stores.{HasWord}
use Rattle.rwsem_wake.proofs.queueing.look_listed.Goals as goal

pub step-requires-clause-there : goal.step-requires-clause-there
step-requires-clause-there g c = subst (HasWord (length c.args.site.now.table.shared.key)) (sym c.COUNT.ensures) (g.H.CountHost.count_there (length c.args.site.now.table.shared.key))

pub step-requires-clause-lets : goal.step-requires-clause-lets
step-requires-clause-lets g c = let k = c.args.site.now.table.shared.key in let v = c.args.pass.now.seat.me.0.view in let own = some-number c.args.pass.now.face.task c.requires.numbered in let has = sym c.requires.own.task ∙ own.1 in
    count-attends g.H.O.Object.object g.H.SiteRule.unavailable g.H.O.Object.WORDS k g.H.SpinHost.LOCKS g.H.SpinHost.FIRST g.H.ListHost.LIST g.H.CountHost.COUNT g.H.GrantHost.MARKS g.H.GrantHost.GRANTS g.H.ListHost.list g.H.GrantHost.sem g.H.GrantHost.with_sem g.H.GrantHost.wake g.H.GrantHost.with_wake g.H.GrantHost.wake_same (g.H.SiteRule.holds k) (g.H.SiteRule.moves k) (g.H.ListHost.queue k) (g.met.H.SiteRule.site_kept k) (g.met.H.SpinHost.spin_kept k) (g.met.H.ListHost.queued k) (g.H.ListHost.list_kept k) g.met.H.GrantHost.sem_places (g.met.H.GrantHost.sem_kept k) (g.met.H.GrantHost.sem_only k) (g.met.H.GrantHost.sems k)
    _ _ _ _ Load (λ n. g.H.GrantHost.sem v.ext) (λ n. saw_count n (g.H.GrantHost.wake v.ext)) (λ n. KnowsSome g.H.ListHost.list v × IsLawfulCount n) c.COUNT.ensures c.requires.held (has-number _ c.args.pass.now.face.task c.requires.own.task c.requires.numbered)
    (λ n q marks grants sees loc only. let t = on-stay sees _ _ _ n q marks grants loc only own.0 has in (t.0, t.1, wakes-listed n q grants sees (sem_part g.H.GrantHost.sem v) (g.H.GrantHost.wake v.ext) only c.requires.rests c.requires.writes c.requires.clear, (on-listed sees _ _ _ n q marks grants loc only own.0 has c.requires.writes, loc.lawful)))

pub returns-clause-on : goal.returns-clause-on
returns-clause-on g c = record {
  own = let turn = c.step.ensures.told.1 in
      sits-on c.step.ensures.own.0 turn.1 (ap (λ v. v.hand) turn.0) (let n = ap (λ v. v.steps) turn.0 in omega (arith, n)) c.step.ensures.face c.requires.own;
  goes_on = c.step.ensures.goes_on;
  last = c.step.ensures.last;
}
