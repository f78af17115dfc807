use Rattle.std.proofs.Common.{◌∙◌, ◌+◌, ◌*◌, sym, ap, arith, get_or, length}
use Rattle.lock_core.proofs.Sitting.{has-number, sits-on, some-number}
use Rattle.rwsem_wake.specs.Grants.{sem_part, unmarked, anything}
use Rattle.rwsem_wake.specs.Types.{Load}
use Rattle.rwsem_wake.proofs.WakeKinds.{wakes-unmarked}
use Rattle.rwsem_wake.proofs.Stepping.{mark-does}
use Rattle.rwsem_wake.proofs.Waking.{on-look-mark}
use Rattle.rwsem_wake.proofs.Having.{has-line}
use Rattle.wait_list.proofs.Waiters.{task-of}
use Rattle.rwsem_wake.proofs.steps.look_mark.Goals as goal

pub step-requires-clause-there : goal.step-requires-clause-there
step-requires-clause-there g c = has-line (length c.args.site.now.table.shared.key) 1 c.args.task g.H.GrantHost.MARKS c.MARKS.result c.args.site.now.small.tasks (omega arith) c.requires.task g.H.GrantHost.marks_row c.MARKS.ensures

pub step-requires-clause-lets : goal.step-requires-clause-lets
step-requires-clause-lets g c = let k = c.args.site.now.table.shared.key in let few = task-of _ _ c.args.site.now.small.tasks c.requires.task in let v = c.args.pass.now.seat.me.0.view in let own = some-number c.args.pass.now.face.task c.requires.numbered in let has = sym c.requires.own.task ∙ own.1 in
    mark-does g.H.O.Object.object g.H.SiteRule.unavailable g.H.O.Object.WORDS k g.H.SpinHost.LOCKS g.H.SpinHost.FIRST g.H.ListHost.LIST g.H.CountHost.COUNT g.H.GrantHost.MARKS g.H.GrantHost.GRANTS g.H.ListHost.list g.H.GrantHost.sem g.H.GrantHost.with_sem g.H.GrantHost.wake g.H.GrantHost.with_wake g.H.GrantHost.wake_same (g.H.SiteRule.holds k) (g.H.SiteRule.moves k) (g.H.ListHost.queue k) (g.met.H.SiteRule.site_kept k) (g.met.H.SpinHost.spin_kept k) (g.met.H.ListHost.queued k) (g.H.ListHost.list_kept k) g.met.H.GrantHost.sem_places (g.met.H.GrantHost.sem_kept k) (g.met.H.GrantHost.sem_only k) (g.met.H.GrantHost.sems k)
    c.args.task few _ _ _ _ (Load) (λ n. unmarked (g.H.GrantHost.sem v.ext) n) anything (ap (λ n. n + 8 * c.args.task) c.MARKS.ensures) c.requires.held (has-number _ c.args.pass.now.face.task c.requires.own.task c.requires.numbered)
    (λ n q marks grants sees loc only. let t = on-look-mark sees _ _ _ n q marks grants loc only own.0 has c.args.task c.requires.next.1.0 c.requires.next.0 c.requires.next.1.1 in (t.0, t.1, wakes-unmarked n q grants sees (sem_part g.H.GrantHost.sem v) (g.H.GrantHost.wake v.ext) (get_or marks c.args.task 0) c.requires.next.0, tt))

pub returns-clause-on : goal.returns-clause-on
returns-clause-on g c = record {
  own = let turn = c.step.ensures.told.1 in
      sits-on c.step.ensures.own.0 turn.1 (ap (λ v. v.hand) turn.0) (let n = ap (λ v. v.steps) turn.0 in omega (arith, n)) c.step.ensures.face c.requires.own;
  goes_on = c.step.ensures.goes_on;
  last = c.step.ensures.last;
}
