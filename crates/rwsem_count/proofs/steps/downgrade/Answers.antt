use Rattle.std.proofs.Common.{◌∙◌, ap, subst, sym, length}
use Rattle.rwsem_count.specs.Types.{Face, Shared, Clear}
use Rattle.rwsem_count.proofs.Counting.{downs}
use Rattle.rwsem_count.proofs.Sitting.{sits-downgraded}
use Rattle.lock_core.specs.Stores.{HasWord}
use Rattle.lock_core.proofs.Sitting.{has-number, noted-on}
use Rattle.rwsem_count.proofs.steps.downgrade.Goals as goal

pub step-found-requires-clause-there : goal.step-found-requires-clause-there
step-found-requires-clause-there g c = subst (HasWord (length c.args.site.now.table.shared.key)) (sym c.COUNT.ensures) (g.H.CountHost.count_there (length c.args.site.now.table.shared.key))

pub step-found-requires-clause-lets : goal.step-found-requires-clause-lets
step-found-requires-clause-lets g c = let k = c.args.site.now.table.shared.key in downs g.H.O.Object.object g.H.SiteRule.unavailable g.H.O.Object.WORDS k g.H.CountHost.bias g.H.CountHost.counted (g.H.SiteRule.holds k) (g.H.SiteRule.moves k) g.H.CountHost.COUNT g.H.CountHost.may_be (g.H.CountHost.more k) g.H.CountHost.may_count g.H.CountHost.may_miss (g.met.H.SiteRule.site_kept k) (g.met.H.CountHost.count_kept k) (g.met.H.CountHost.counts k) (g.met.H.CountHost.count_looks k) _ _ _ _ c.COUNT.ensures (has-number _ c.args.pass.now.face.task c.requires.own.task c.requires.numbered) (sym c.requires.own.held ∙ c.requires.holds) c.requires.clear c.requires.quiet c.requires.own.stage c.requires.may

pub returns-clause-on : goal.returns-clause-on
returns-clause-on g c = let told = c.step-found.ensures.told.4 in noted-on c.step-found.new.pass (sits-downgraded g.H.CountHost.counted Clear _ (ap (λ s. s.me.0.view) c.set_held.ensures.seat ∙ told.0) c.requires.quiet c.requires.numbered (ap (λ s. s.table_id) c.set_held.ensures.seat ∙ c.step-found.ensures.own.0) (ap (λ s. s.me.1) c.set_held.ensures.seat ∙ told.1) (c.set_held.ensures.face ∙ ap (λ (f : Face). record f { held = Shared }) c.step-found.ensures.face) c.requires.own) c.step-found.ensures.goes_on c.step-found.ensures.last c.set_held.ensures.seat
