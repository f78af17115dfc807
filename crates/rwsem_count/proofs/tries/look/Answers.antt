use Rattle.std.proofs.Common.{sym, ◌∙◌, subst, length}
use Rattle.rwsem_count.proofs.Counting.{looks}
use Rattle.lock_core.proofs.Sitting.{has-number}
use Rattle.lock_core.specs.Pasts.{unseen}
use Rattle.rwsem_count.proofs.Trying.{saw-word}
use Rattle.rwsem_count.proofs.Sitting.{sits-saw}
use Rattle.lock_core.specs.Stores.{HasWord}
use Rattle.rwsem_count.proofs.tries.look.Goals as goal

pub step-requires-clause-there : goal.step-requires-clause-there
step-requires-clause-there g c = subst (HasWord (length c.args.site.now.table.shared.key)) (sym c.COUNT.ensures) (g.H.CountHost.count_there (length c.args.site.now.table.shared.key))

pub step-requires-clause-lets : goal.step-requires-clause-lets
step-requires-clause-lets g c = let k = c.args.site.now.table.shared.key in looks g.H.O.Object.object g.H.SiteRule.unavailable g.H.O.Object.WORDS k g.H.CountHost.bias g.H.CountHost.counted (g.H.SiteRule.holds k) (g.H.SiteRule.moves k) g.H.CountHost.COUNT g.H.CountHost.may_be (g.H.CountHost.more k) g.H.CountHost.may_count g.H.CountHost.may_miss (g.met.H.SiteRule.site_kept k) (g.met.H.CountHost.count_kept k) (g.met.H.CountHost.counts k) (g.met.H.CountHost.count_looks k) _ _ _ _ c.COUNT.ensures (has-number _ c.args.pass.now.face.task c.requires.own.task c.requires.numbered) (sym c.requires.own.held ∙ c.requires.out) c.requires.misses

pub returns-clause-on : goal.returns-clause-on
returns-clause-on g c = record {
  own = sits-saw _ c.step.ensures.told c.step.ensures.own.0 c.step.ensures.face c.requires.own;
  goes_on = c.step.ensures.goes_on;
  last = c.step.ensures.last;
}

pub returns-clause-saw : goal.returns-clause-saw
returns-clause-saw g c = saw-word (unseen c.args.pass.now.seat.me) (unseen c.step.new.pass.seat.me) c.step.result c.step.ensures.told
