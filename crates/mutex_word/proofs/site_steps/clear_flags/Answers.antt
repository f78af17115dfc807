use Rattle.std.proofs.Common.{arith, ap, refl, subst, sym, length}
use Rattle.lock_core.proofs.Sitting.{sits-on}
use Rattle.mutex_word.proofs.Owning.{wipes}
use Rattle.lock_core.specs.Stores.{HasWord}
use Rattle.mutex_word.proofs.site_steps.clear_flags.Goals as goal

pub step-requires-clause-there : goal.step-requires-clause-there
step-requires-clause-there g c = subst (HasWord (length c.args.site.now.table.shared.key)) (sym c.OWNER.ensures) (g.H.OwnerHost.own_there (length c.args.site.now.table.shared.key))

pub step-requires-clause-lets : goal.step-requires-clause-lets
step-requires-clause-lets g c = let k = c.args.site.now.table.shared.key in wipes (g.H.O.Object.object) g.H.SiteRule.unavailable g.H.O.Object.WORDS k (g.H.SiteRule.holds k) (g.H.SiteRule.moves k) g.H.OwnerHost.OWNER g.H.OwnerHost.may_be g.H.OwnerHost.may_own g.H.OwnerHost.may_miss g.H.OwnerHost.turned (g.met.H.SiteRule.site_kept k) (g.met.H.OwnerHost.own_kept k) (g.met.H.OwnerHost.owns k) (g.met.H.OwnerHost.own_may k) (g.met.H.OwnerHost.own_looks k) _ _ _ _ _ c.OWNER.ensures refl c.requires.may

pub returns-clause-on : goal.returns-clause-on
returns-clause-on g c = record {
  own = let turn = c.step.ensures.told in
      sits-on c.step.ensures.own.0 turn.1 (ap (λ v. v.hand) turn.0) (let n = ap (λ v. v.steps) turn.0 in omega (arith, n)) c.step.ensures.face c.requires.own;
  goes_on = c.step.ensures.goes_on;
  last = c.step.ensures.last;
}
