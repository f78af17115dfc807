use Rattle.std.proofs.Common.{◌+◌, arith, ap, length}
use Rattle.lock_core.specs.Layout.{site}
use Rattle.lock_core.proofs.Having.{has-spin}
use Rattle.lock_core.proofs.Sitting.{sits-on}
use Rattle.qspin_word.proofs.Turning.{numbers, lets}
use Rattle.qspin_word.proofs.moves.spin_step.Goals as goal

pub step-requires-clause-there : goal.step-requires-clause-there
step-requires-clause-there g c = let few = c.args.site.now.small.tasks in let e = c.FIRST.ensures in let z = g.H.SpinHost.spin_first in let l = c.requires.inside in has-spin (length c.args.site.now.table.shared.key) (c.FIRST.result + c.args.at) few (omega (arith, e, z, l))

pub step-requires-clause-lets : goal.step-requires-clause-lets
step-requires-clause-lets g c = let k = c.args.site.now.table.shared.key in let H = g.H.SpinHost in let R = g.H.SiteRule in let e = c.FIRST.ensures in let few = c.args.site.now.small.tasks in let l = c.requires.inside in
    lets (R.holds k) (R.moves k) H.FIRST H.LOCKS (length k) c.args.lock H.may_free (g.met.H.SpinHost.spin_kept k) (λ ws vs h. numbers g.H.O.Object.object R.unavailable g.H.O.Object.WORDS k (site k ws) vs (g.met.H.SiteRule.site_kept k ws vs h)) (g.met.H.SpinHost.spins k) c.requires.there
    _ _ (c.FIRST.result + c.args.at) c.args.at _ c.args.op g.A.SpinAfter.after g.A.SpinAfter.tells (omega (arith, e)) (omega (arith, l, few)) c.requires.may c.requires.allows

pub returns-clause-steps : goal.returns-clause-steps
returns-clause-steps g c = let turn = c.step.ensures.told.0 in record {
  own = sits-on c.step.ensures.own.0 turn.1 (ap (λ v. v.hand) turn.0) (let n = ap (λ v. v.steps) turn.0 in omega (arith, n)) c.step.ensures.face c.requires.own;
  face = c.step.ensures.face;
  nest = c.step.ensures.nest;
  goes_on = c.step.ensures.goes_on;
  last = c.step.ensures.last;
  kept = turn.0;
}
