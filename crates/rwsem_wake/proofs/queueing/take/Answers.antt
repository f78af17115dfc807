use Rattle.std.proofs.Common.{◌∙◌, ◌==◌, IsSome, sym, refl, ap, subst, arith, eq-eqb, ne_eqb, length}
use Rattle.word_bits.specs.LockWords.{IsLawfulCount}
use Rattle.lock_core.proofs.Sitting.{noted-on, sits-on, sits-took}
use Rattle.rwsem_wake.specs.GrantQueues.{taken}
use Rattle.rwsem_wake.proofs.WakeKinds.{wakes-take}
use Rattle.rwsem_wake.specs.Grants.{sem_part}
use Rattle.rwsem_wake.specs.Duties.{exchanged}
use Rattle.rwsem_wake.specs.Types.{Exchange, Face, Alone, Clear}
use Rattle.rwsem_wake.proofs.Holding.{holds-by, alone-holds, busy-held}
use Rattle.rwsem_wake.proofs.Stepping.{count-holds}
use Rattle.rwsem_wake.proofs.QueueSteps.{on-take}
use Rattle.lock_core.specs.Stores.{HasWord}
use Rattle.rwsem_wake.proofs.queueing.take.Goals as goal

pub step-found-requires-clause-there : goal.step-found-requires-clause-there
step-found-requires-clause-there g c = subst (HasWord (length c.args.site.now.table.shared.key)) (sym c.COUNT.ensures) (g.H.CountHost.count_there (length c.args.site.now.table.shared.key))

pub step-found-requires-clause-lets : goal.step-found-requires-clause-lets
step-found-requires-clause-lets g c = let k = c.args.site.now.table.shared.key in let v = c.args.pass.now.seat.me.0.view in let t0 = c.args.task in let has = sym c.requires.own.task ∙ c.requires.mine in
    count-holds g.H.O.Object.object g.H.SiteRule.unavailable g.H.O.Object.WORDS k g.H.SpinHost.LOCKS g.H.SpinHost.FIRST g.H.ListHost.LIST g.H.CountHost.COUNT g.H.GrantHost.MARKS g.H.GrantHost.GRANTS g.H.ListHost.list g.H.GrantHost.sem g.H.GrantHost.with_sem g.H.GrantHost.wake g.H.GrantHost.with_wake g.H.GrantHost.wake_same (g.H.SiteRule.holds k) (g.H.SiteRule.moves k) (g.H.ListHost.queue k) (g.met.H.SiteRule.site_kept k) (g.met.H.SpinHost.spin_kept k) (g.met.H.ListHost.queued k) (g.H.ListHost.list_kept k) g.met.H.GrantHost.sem_places (g.met.H.GrantHost.sem_kept k) (g.met.H.GrantHost.sem_only k) (g.met.H.GrantHost.sems k)
    _ _ _ t0 _ (Exchange c.args.old c.args.new) Alone (λ n. n == c.args.old) (λ n. taken (g.H.GrantHost.sem v.ext) c.args.old n) (λ n. exchanged c.args.old n (g.H.GrantHost.wake v.ext)) IsLawfulCount c.COUNT.ensures has (sym c.requires.own.held ∙ c.requires.out) (λ e. alone-holds e)
    (λ n q marks grants sees loc only. let m = c.requires.may in let t = on-take sees _ _ _ n q marks grants loc (only c.requires.held) t0 has (sym c.requires.own.held ∙ c.requires.out) m.writes m.clear m.rest m.knows m.waiting c.args.alone c.args.old c.args.new m.only m.may m.free m.flags in (busy-held v.spin _ c.requires.held, t.0.0, t.0.1, wakes-take n q grants sees (sem_part g.H.GrantHost.sem v) (g.H.GrantHost.wake v.ext) _ c.args.old (only c.requires.held) m.may m.writes m.clear (sym c.requires.own.held ∙ c.requires.out), t.1, t.2))

pub returns-then-found-old-clause-on : goal.returns-then-found-old-clause-on
returns-then-found-old-clause-on g c = let gets = c.step-found.ensures.told.1 (eq-eqb _ _ c.if-found-old.true) in noted-on c.step-found.new.pass (sits-took {me = c.args.pass.now.seat.me} Alone gets.0 gets.1 _ (ap (λ s. s.me.0.view) c.set_held.ensures.seat ∙ gets.3.0) ((gets.2 c.args.site.now.table.shared.key c.requires.own.plan).within) c.requires.out (subst IsSome (sym c.requires.mine) refl) (ap (λ s. s.table_id) c.set_held.ensures.seat ∙ c.step-found.ensures.own.0) (ap (λ s. s.me.1) c.set_held.ensures.seat ∙ gets.3.1)
    (c.set_held.ensures.face ∙ ap (λ (f : Face). record f { held = Alone }) c.step-found.ensures.face) c.requires.own) c.step-found.ensures.goes_on c.step-found.ensures.last c.set_held.ensures.seat

pub returns-then-found-old-clause-took : goal.returns-then-found-old-clause-took
returns-then-found-old-clause-took g c = λ is. holds-by g.H.GrantHost.with_sem g.H.GrantHost.with_wake g.H.O.Object.object c.args.site.now.table.shared.key Alone _ _ c.args.pass.now.seat.me c.step-found.new.pass.seat.me c.set_held.new.self.seat.me.0.view c.requires.own.plan (ap (λ s. s.me.0.view) c.set_held.ensures.seat) (c.step-found.ensures.told.1 (eq-eqb _ _ c.if-found-old.true))

pub returns-else-found-old-clause-on : goal.returns-else-found-old-clause-on
returns-else-found-old-clause-on g c = record {
  own = let turn = c.step-found.ensures.told.2 (ne_eqb _ _ c.if-found-old.false) in
      sits-on c.step-found.ensures.own.0 turn.1 (ap (λ v. v.hand) turn.0) (let n = ap (λ v. v.steps) turn.0 in omega (arith, n)) c.step-found.ensures.face c.requires.own;
  goes_on = c.step-found.ensures.goes_on;
  last = c.step-found.ensures.last;
}
