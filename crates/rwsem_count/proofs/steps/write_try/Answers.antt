use Rattle.std.proofs.Common.{◌∙◌, arith, ap, subst, sym, length}
use Rattle.rwsem_count.specs.Types.{Face, Alone, Clear}
use Rattle.rwsem_count.proofs.Counting.{writer-gets}
use Rattle.rwsem_count.proofs.Sitting.{sits-missed}
use Rattle.lock_core.specs.Stores.{HasWord}
use Rattle.lock_core.proofs.Sitting.{noted-on, sits-took, some-number}
use Rattle.rwsem_count.proofs.steps.write_try.Goals as goal

pub step-found-requires-clause-there : goal.step-found-requires-clause-there
step-found-requires-clause-there g c = subst (HasWord (length c.args.site.now.table.shared.key)) (sym c.COUNT.ensures) (g.H.CountHost.count_there (length c.args.site.now.table.shared.key))

pub step-found-requires-clause-lets : goal.step-found-requires-clause-lets
step-found-requires-clause-lets g c = let k = c.args.site.now.table.shared.key in let t = some-number c.args.pass.now.face.task c.requires.numbered in writer-gets g.H.O.Object.object g.H.SiteRule.unavailable g.H.O.Object.WORDS k g.H.CountHost.bias g.H.CountHost.counted (g.H.SiteRule.holds k) (g.H.SiteRule.moves k) g.H.CountHost.COUNT g.H.CountHost.may_be (g.H.CountHost.more k) g.H.CountHost.may_count g.H.CountHost.may_miss (g.met.H.SiteRule.site_kept k) (g.met.H.CountHost.count_kept k) (g.met.H.CountHost.counts k) (g.met.H.CountHost.count_looks k) _ _ _ t.0 _ c.COUNT.ensures (sym c.requires.own.task ∙ t.1) (sym c.requires.own.held ∙ c.requires.out) c.requires.clear c.requires.writes c.requires.misses

pub returns-then-found-ne0-clause-on : goal.returns-then-found-ne0-clause-on
returns-then-found-ne0-clause-on g c = record {
  own = let told = c.step-found.ensures.told.1 c.if-found-ne0.true in sits-missed _ _ _ _ told.1.0 (omega arith) told.0 c.step-found.ensures.own.0 told.1.1 c.step-found.ensures.face c.requires.own;
  goes_on = c.step-found.ensures.goes_on;
  last = c.step-found.ensures.last;
}

pub returns-clause-on : goal.returns-clause-on
returns-clause-on g c = let told = c.step-found.ensures.told.0 c.if-found-ne0.false in noted-on c.step-found.new.pass (sits-took {me = c.args.pass.now.seat.me} Alone told.0 told.1 _ (ap (λ s. s.me.0.view) c.set_held.ensures.seat ∙ told.3.0) ((told.2 c.args.site.now.table.shared.key c.requires.own.plan).within) c.requires.out c.requires.numbered (ap (λ s. s.table_id) c.set_held.ensures.seat ∙ c.step-found.ensures.own.0) (ap (λ s. s.me.1) c.set_held.ensures.seat ∙ told.3.1) (c.set_held.ensures.face ∙ ap (λ (f : Face). record f { held = Alone }) c.step-found.ensures.face) c.requires.own) c.step-found.ensures.goes_on c.step-found.ensures.last c.set_held.ensures.seat
