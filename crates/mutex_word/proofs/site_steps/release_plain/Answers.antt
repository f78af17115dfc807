use Rattle.std.proofs.Common.{arith, subst, ap, sym, ◌∙◌, length}
use Rattle.mutex_word.specs.Types.{No, Face, Free}
use Rattle.lock_core.proofs.Sitting.{noted-on, sits-on, sits-released}
use Rattle.mutex_word.proofs.Owning.{frees}
use Rattle.mutex_word.proofs.Sitting.{its-number}
use Rattle.lock_core.specs.Stores.{HasWord}
use Rattle.mutex_word.proofs.site_steps.release_plain.Goals as goal

pub own_code-code-requires : goal.own_code-code-requires
own_code-code-requires g c = its-number c.args.site.now.small c.requires.own

pub step-found-requires-clause-there : goal.step-found-requires-clause-there
step-found-requires-clause-there g c = subst (HasWord (length c.args.site.now.table.shared.key)) (sym c.OWNER.ensures) (g.H.OwnerHost.own_there (length c.args.site.now.table.shared.key))

pub step-found-requires-clause-lets : goal.step-found-requires-clause-lets
step-found-requires-clause-lets g c = let k = c.args.site.now.table.shared.key in
    frees g.H.O.Object.object g.H.SiteRule.unavailable g.H.O.Object.WORDS k (g.H.SiteRule.holds k) (g.H.SiteRule.moves k) g.H.OwnerHost.OWNER g.H.OwnerHost.may_be g.H.OwnerHost.may_own g.H.OwnerHost.may_miss g.H.OwnerHost.turned (g.met.H.SiteRule.site_kept k) (g.met.H.OwnerHost.own_kept k) (g.met.H.OwnerHost.owns k) (g.met.H.OwnerHost.own_may k) (g.met.H.OwnerHost.own_looks k)
    _ _ _ _ c.args.pass.now.face.task _ c.OWNER.ensures c.own_code-code.ensures c.requires.own.task (sym c.requires.own.held ∙ c.requires.held) c.requires.quiet c.requires.own.stage c.requires.may

pub returns-then-found-code-clause-on : goal.returns-then-found-code-clause-on
returns-then-found-code-clause-on g c = record {
  own = let told = c.step-found.ensures.told.1 c.if-found-code.true in
      sits-on c.step-found.ensures.own.0 told.2.1 (ap (λ v. v.hand) told.2.0) (let n = ap (λ v. v.steps) told.2.0 in omega (arith, n)) c.step-found.ensures.face c.requires.own;
  goes_on = c.step-found.ensures.goes_on;
  last = c.step-found.ensures.last;
}

pub returns-clause-on : goal.returns-clause-on
returns-clause-on g c = let told = c.step-found.ensures.told.0 c.if-found-code.false in let seat = c.set_held.ensures.seat in noted-on c.step-found.new.pass (sits-released 0
    (g.H.OwnerHost.turned Free c.args.pass.now.seat.me.0.view) (ap (λ s. s.me.0.view) seat ∙ told.0) c.requires.quiet (ap (λ s. s.table_id) seat ∙ c.step-found.ensures.own.0) (ap (λ s. s.me.1) seat ∙ told.1) (c.set_held.ensures.face ∙ ap (λ (f : Face). record f { held = No }) c.step-found.ensures.face) c.requires.own) c.step-found.ensures.goes_on c.step-found.ensures.last c.set_held.ensures.seat
