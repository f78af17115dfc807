use Rattle.std.proofs.Common.{◌∙◌, ℕ, ◌%◌, ◌==◌, sym, ap, subst, arith, eq-eqb, ne_eqb, length}
use Rattle.word_bits.specs.LockWords.{IsLawfulCount}
use Rattle.lock_core.specs.Pasts.{FoundAt}
use Rattle.lock_core.proofs.Sitting.{noted-on, sits-on, sits-took, some-number}
use Rattle.rwsem_wake.specs.GrantQueues.{settled}
use Rattle.rwsem_wake.proofs.WakeKinds.{wakes-settle}
use Rattle.rwsem_wake.specs.Grants.{sem_part}
use Rattle.rwsem_wake.specs.Types.{Load, Face, Shared, Clear}
use Rattle.rwsem_wake.proofs.Holding.{holds-by, shared-holds, busy-held}
use Rattle.rwsem_wake.proofs.Stepping.{count-holds}
use Rattle.rwsem_wake.proofs.QueueSteps.{on-settle}
use Rattle.lock_core.specs.Stores.{HasWord}
use Rattle.rwsem_wake.proofs.Flags.{flag-clear}
use Rattle.rwsem_wake.proofs.queueing.settle.Goals as goal

pub step-requires-clause-there : goal.step-requires-clause-there
step-requires-clause-there g c = subst (HasWord (length c.args.site.now.table.shared.key)) (sym c.COUNT.ensures) (g.H.CountHost.count_there (length c.args.site.now.table.shared.key))

pub step-requires-clause-lets : goal.step-requires-clause-lets
step-requires-clause-lets g c = let k = c.args.site.now.table.shared.key in let v = c.args.pass.now.seat.me.0.view in let own = some-number c.args.pass.now.face.task c.requires.numbered in let t0 = own.0 in let has = sym c.requires.own.task ∙ own.1 in
    count-holds g.H.O.Object.object g.H.SiteRule.unavailable g.H.O.Object.WORDS k g.H.SpinHost.LOCKS g.H.SpinHost.FIRST g.H.ListHost.LIST g.H.CountHost.COUNT g.H.GrantHost.MARKS g.H.GrantHost.GRANTS g.H.ListHost.list g.H.GrantHost.sem g.H.GrantHost.with_sem g.H.GrantHost.wake g.H.GrantHost.with_wake g.H.GrantHost.wake_same (g.H.SiteRule.holds k) (g.H.SiteRule.moves k) (g.H.ListHost.queue k) (g.met.H.SiteRule.site_kept k) (g.met.H.SpinHost.spin_kept k) (g.met.H.ListHost.queued k) (g.H.ListHost.list_kept k) g.met.H.GrantHost.sem_places (g.met.H.GrantHost.sem_kept k) (g.met.H.GrantHost.sem_only k) (g.met.H.GrantHost.sems k)
    _ _ _ t0 _ Load Shared (λ n. n % 2 == 0) (λ n. settled (g.H.GrantHost.sem v.ext) n) (λ n. (g.H.GrantHost.wake v.ext)) IsLawfulCount c.COUNT.ensures has (sym c.requires.own.held ∙ c.requires.out) (λ e. shared-holds e)
    (λ n q marks grants sees loc only. let m = c.requires.may in let t = on-settle sees _ _ _ n q marks grants loc (only c.requires.held) t0 has m.transit.0 m.stage m.waits m.transit.1 (sym c.requires.own.held ∙ c.requires.out) m.knows m.nobody in (busy-held v.spin _ c.requires.held, t.0.0, t.0.1, wakes-settle n q grants sees (sem_part g.H.GrantHost.sem v) (g.H.GrantHost.wake v.ext) _ m.transit.0 m.stage m.transit.1 (sym c.requires.own.held ∙ c.requires.out), t.1, t.2))

pub returns-then-free-clause-on : goal.returns-then-free-clause-on
returns-then-free-clause-on g c = let gets = c.step.ensures.told.1 (eq-eqb _ _ (flag-clear c.has_writer-free.result c.step.result c.has_writer-free.ensures c.if-free.true)) in noted-on c.step.new.pass (sits-took {me = c.args.pass.now.seat.me} Shared gets.0 gets.1 _ (ap (λ s. s.me.0.view) c.set_held.ensures.seat ∙ gets.3.0) ((gets.2 c.args.site.now.table.shared.key c.requires.own.plan).within) c.requires.out c.requires.numbered (ap (λ s. s.table_id) c.set_held.ensures.seat ∙ c.step.ensures.own.0) (ap (λ s. s.me.1) c.set_held.ensures.seat ∙ gets.3.1)
    (c.set_held.ensures.face ∙ ap (λ (f : Face). record f { held = Shared }) c.step.ensures.face) c.requires.own) c.step.ensures.goes_on c.step.ensures.last c.set_held.ensures.seat

pub returns-then-free-clause-took : goal.returns-then-free-clause-took
returns-then-free-clause-took g c = λ is. (c.step.result, subst (λ (p : ℕ). FoundAt p c.step.result c.set_held.new.self.seat.me.0.past) c.COUNT.ensures (subst (FoundAt _ _) (sym (ap (λ s. s.me.0.past) c.set_held.ensures.seat)) c.step.ensures.found), flag-clear c.has_writer-free.result c.step.result c.has_writer-free.ensures c.if-free.true, holds-by g.H.GrantHost.with_sem g.H.GrantHost.with_wake g.H.O.Object.object c.args.site.now.table.shared.key Shared _ _ c.args.pass.now.seat.me c.step.new.pass.seat.me c.set_held.new.self.seat.me.0.view c.requires.own.plan (ap (λ s. s.me.0.view) c.set_held.ensures.seat) (c.step.ensures.told.1 (eq-eqb _ _ (flag-clear c.has_writer-free.result c.step.result c.has_writer-free.ensures c.if-free.true))))

pub returns-else-free-clause-on : goal.returns-else-free-clause-on
returns-else-free-clause-on g c = record {
  own = let turn = c.step.ensures.told.2 (ne_eqb _ _ (λ even. let odd = c.has_writer-free.ensures.0 c.if-free.false in omega (arith, even, odd))) in
      sits-on c.step.ensures.own.0 turn.1 (ap (λ v. v.hand) turn.0) (let n = ap (λ v. v.steps) turn.0 in omega (arith, n)) c.step.ensures.face c.requires.own;
  goes_on = c.step.ensures.goes_on;
  last = c.step.ensures.last;
}
