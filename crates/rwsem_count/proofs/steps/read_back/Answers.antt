use Rattle.std.proofs.Common.{arith, ap, subst, sym, length}
use Rattle.lock_core.proofs.Sitting.{has-number, sits-on}
use Rattle.rwsem_count.proofs.Counting.{backs}
use Rattle.lock_core.specs.Stores.{HasWord}
use Rattle.rwsem_count.proofs.steps.read_back.Goals as goal

pub step-found-requires-clause-there : goal.step-found-requires-clause-there
step-found-requires-clause-there g c = subst (HasWord (length c.args.site.now.table.shared.key)) (sym c.COUNT.ensures) (g.H.CountHost.count_there (length c.args.site.now.table.shared.key))

pub step-found-requires-clause-lets : goal.step-found-requires-clause-lets
step-found-requires-clause-lets g c = let k = c.args.site.now.table.shared.key in backs g.H.O.Object.object g.H.SiteRule.unavailable g.H.O.Object.WORDS k g.H.CountHost.bias g.H.CountHost.counted (g.H.SiteRule.holds k) (g.H.SiteRule.moves k) g.H.CountHost.COUNT g.H.CountHost.may_be (g.H.CountHost.more k) g.H.CountHost.may_count g.H.CountHost.may_miss (g.met.H.SiteRule.site_kept k) (g.met.H.CountHost.count_kept k) (g.met.H.CountHost.counts k) (g.met.H.CountHost.count_looks k) _ _ _ c.requires.transit.0 _ c.COUNT.ensures (has-number _ c.args.pass.now.face.task c.requires.own.task c.requires.numbered) c.requires.transit.1 c.requires.may

pub returns-clause-on : goal.returns-clause-on
returns-clause-on g c = record {
  own = let told = c.step-found.ensures.told.4 in sits-on c.step-found.ensures.own.0 told.1 (ap (λ v. v.hand) told.0) (let n = ap (λ v. v.steps) told.0 in omega (arith, n)) c.step-found.ensures.face c.requires.own;
  goes_on = c.step-found.ensures.goes_on;
  last = c.step-found.ensures.last;
}
