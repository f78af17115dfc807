use Rattle.std.proofs.Common.{ap, arith, length}
use Rattle.lock_core.proofs.Sitting.{sits-on}
use Rattle.rwsem_wake.proofs.Hinting.{hint-does, hint-there}
use Rattle.rwsem_wake.proofs.hint.set_hint.Goals as goal

pub step-requires-clause-there : goal.step-requires-clause-there
step-requires-clause-there g c = hint-there (length c.args.site.now.table.shared.key)

pub step-requires-clause-lets : goal.step-requires-clause-lets
step-requires-clause-lets g c = hint-does (g.H.SiteRule.holds c.args.site.now.table.shared.key) (g.H.SiteRule.moves c.args.site.now.table.shared.key) (g.met.H.WakeHost.hints c.args.site.now.table.shared.key) _ _ c.args.hint _

pub returns-clause-on : goal.returns-clause-on
returns-clause-on g c = record {
  own = let turn = c.step.ensures.told in
      sits-on c.step.ensures.own.0 turn.1 (ap (λ v. v.hand) turn.0) (let n = ap (λ v. v.steps) turn.0 in omega (arith, n)) c.step.ensures.face c.requires.own;
  goes_on = c.step.ensures.goes_on;
  last = c.step.ensures.last;
}
