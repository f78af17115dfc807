use Rattle.std.proofs.Common.{◌∙◌, ◌+◌, ◌*◌, ◌==◌, IsSome, sym, refl, ap, subst, arith, eq-eqb, ne_eqb, length}
use Rattle.lock_core.proofs.Sitting.{noted-on, sits-on, sits-took}
use Rattle.rwsem_wake.specs.Grants.{sem_part, anything}
use Rattle.rwsem_wake.specs.GrantQueues.{heard}
use Rattle.rwsem_wake.proofs.WakeKinds.{wakes-hear}
use Rattle.rwsem_wake.specs.Duties.{heard_at}
use Rattle.rwsem_wake.specs.Types.{Load, Face, Shared, Clear}
use Rattle.rwsem_wake.proofs.Holding.{holds-by, shared-holds, heard-rests}
use Rattle.rwsem_wake.proofs.Stepping.{grant-holds}
use Rattle.rwsem_wake.proofs.QueueSteps.{on-hear}
use Rattle.rwsem_wake.proofs.Having.{has-line}
use Rattle.wait_list.proofs.Waiters.{task-of}
use Rattle.rwsem_wake.proofs.queueing.hear.Goals as goal

pub step-word-requires-clause-there : goal.step-word-requires-clause-there
step-word-requires-clause-there g c = has-line (length c.args.site.now.table.shared.key) 2 c.args.task g.H.GrantHost.GRANTS c.GRANTS.result c.args.site.now.small.tasks (omega arith) c.requires.task g.H.GrantHost.grants_row c.GRANTS.ensures

pub step-word-requires-clause-lets : goal.step-word-requires-clause-lets
step-word-requires-clause-lets g c = let k = c.args.site.now.table.shared.key in let few = task-of _ _ c.args.site.now.small.tasks c.requires.task in let v = c.args.pass.now.seat.me.0.view in let t0 = c.args.task in let has = sym c.requires.own.task ∙ c.requires.mine in
    grant-holds g.H.O.Object.object g.H.SiteRule.unavailable g.H.O.Object.WORDS k g.H.SpinHost.LOCKS g.H.SpinHost.FIRST g.H.ListHost.LIST g.H.CountHost.COUNT g.H.GrantHost.MARKS g.H.GrantHost.GRANTS g.H.ListHost.list g.H.GrantHost.sem g.H.GrantHost.with_sem g.H.GrantHost.wake g.H.GrantHost.with_wake g.H.GrantHost.wake_same (g.H.SiteRule.holds k) (g.H.SiteRule.moves k) (g.H.ListHost.queue k) (g.met.H.SiteRule.site_kept k) (g.met.H.SpinHost.spin_kept k) (g.met.H.ListHost.queued k) (g.H.ListHost.list_kept k) g.met.H.GrantHost.sem_places (g.met.H.GrantHost.sem_kept k) (g.met.H.GrantHost.sem_only k) (g.met.H.GrantHost.sems k)
    c.args.task few _ _ _ t0 _ Load Shared (λ n. n == 0) (λ n. heard (g.H.GrantHost.sem v.ext) n) (λ n. heard_at n (g.H.GrantHost.wake v.ext)) anything (ap (λ n. n + 8 * c.args.task) c.GRANTS.ensures) has (sym c.requires.own.held ∙ c.requires.out) (λ e. shared-holds e)
    (λ n q marks grants sees loc only. let m = c.requires.may in let t = on-hear sees _ _ _ n q marks grants loc t0 has m.stage m.waits m.clear (sym c.requires.own.held ∙ c.requires.out) in (heard-rests v.spin (g.H.GrantHost.sem v.ext) _ m.stage, t.0.0, t.0.1, wakes-hear n q grants sees (sem_part g.H.GrantHost.sem v) (g.H.GrantHost.wake v.ext) t0 has m.stage m.waits (sym c.requires.own.held ∙ c.requires.out) c.requires.owes, t.1, tt))

pub returns-then-word-eq0-clause-on : goal.returns-then-word-eq0-clause-on
returns-then-word-eq0-clause-on g c = let gets = c.step-word.ensures.told.1 (eq-eqb _ _ c.if-word-eq0.true) in noted-on c.step-word.new.pass (sits-took {me = c.args.pass.now.seat.me} Shared gets.0 gets.1 _ (ap (λ s. s.me.0.view) c.set_held.ensures.seat ∙ gets.3.0) ((gets.2 c.args.site.now.table.shared.key c.requires.own.plan).within) c.requires.out (subst IsSome (sym c.requires.mine) refl) (ap (λ s. s.table_id) c.set_held.ensures.seat ∙ c.step-word.ensures.own.0) (ap (λ s. s.me.1) c.set_held.ensures.seat ∙ gets.3.1)
    (c.set_held.ensures.face ∙ ap (λ (f : Face). record f { held = Shared }) c.step-word.ensures.face) c.requires.own) c.step-word.ensures.goes_on c.step-word.ensures.last c.set_held.ensures.seat

pub returns-then-word-eq0-clause-took : goal.returns-then-word-eq0-clause-took
returns-then-word-eq0-clause-took g c = λ is. holds-by g.H.GrantHost.with_sem g.H.GrantHost.with_wake g.H.O.Object.object c.args.site.now.table.shared.key Shared _ _ c.args.pass.now.seat.me c.step-word.new.pass.seat.me c.set_held.new.self.seat.me.0.view c.requires.own.plan (ap (λ s. s.me.0.view) c.set_held.ensures.seat) (c.step-word.ensures.told.1 (eq-eqb _ _ c.if-word-eq0.true))

pub returns-else-word-eq0-clause-on : goal.returns-else-word-eq0-clause-on
returns-else-word-eq0-clause-on g c = record {
  own = let turn = c.step-word.ensures.told.2 (ne_eqb _ _ c.if-word-eq0.false) in
      sits-on c.step-word.ensures.own.0 turn.1 (ap (λ v. v.hand) turn.0) (let n = ap (λ v. v.steps) turn.0 in omega (arith, n)) c.step-word.ensures.face c.requires.own;
  goes_on = c.step-word.ensures.goes_on;
  last = c.step-word.ensures.last;
}
