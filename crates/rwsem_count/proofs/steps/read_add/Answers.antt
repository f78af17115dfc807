use Rattle.std.proofs.Common.{◌∙◌, arith, ap, subst, sym, length}
use Rattle.rwsem_count.specs.Types.{Face, Shared, Clear}
use Rattle.lock_core.proofs.HandLaws.{not-both}
use Rattle.rwsem_count.proofs.Counting.{reads}
use Rattle.rwsem_count.proofs.Sitting.{sits-missed}
use Rattle.lock_core.specs.Stores.{HasWord}
use Rattle.lock_core.proofs.Sitting.{noted-on, sits-took, some-number}
use Rattle.rwsem_count.proofs.steps.read_add.Goals as goal

pub step-count-requires-clause-there : goal.step-count-requires-clause-there
step-count-requires-clause-there g c = subst (HasWord (length c.args.site.now.table.shared.key)) (sym c.COUNT.ensures) (g.H.CountHost.count_there (length c.args.site.now.table.shared.key))

pub step-count-requires-clause-lets : goal.step-count-requires-clause-lets
step-count-requires-clause-lets g c = let k = c.args.site.now.table.shared.key in let t = some-number c.args.pass.now.face.task c.requires.numbered in reads g.H.O.Object.object g.H.SiteRule.unavailable g.H.O.Object.WORDS k g.H.CountHost.bias g.H.CountHost.counted (g.H.SiteRule.holds k) (g.H.SiteRule.moves k) g.H.CountHost.COUNT g.H.CountHost.may_be (g.H.CountHost.more k) g.H.CountHost.may_count g.H.CountHost.may_miss (g.met.H.SiteRule.site_kept k) (g.met.H.CountHost.count_kept k) (g.met.H.CountHost.counts k) (g.met.H.CountHost.count_looks k) _ _ _ t.0 _ c.COUNT.ensures (sym c.requires.own.task ∙ t.1) (sym c.requires.own.held ∙ c.requires.out) c.requires.clear c.requires.reads c.requires.waits c.requires.misses

pub returns-then-not-read_free-clause-on : goal.returns-then-not-read_free-clause-on
returns-then-not-read_free-clause-on g c = record {
  own = let told = c.step-count.ensures.told in let shut = told.2 (λ free. not-both c.read_free.result c.if-not-read_free.true (c.read_free.ensures.free.1 free)) in sits-missed _ _ _ _ shut.0 (omega arith) told.0 c.step-count.ensures.own.0 shut.1 c.step-count.ensures.face c.requires.own;
  goes_on = c.step-count.ensures.goes_on;
  last = c.step-count.ensures.last;
}

pub returns-clause-on : goal.returns-clause-on
returns-clause-on g c = let told = c.step-count.ensures.told.1 (c.read_free.ensures.free.0 c.if-not-read_free.false) in noted-on c.step-count.new.pass (sits-took {me = c.args.pass.now.seat.me} Shared told.0 told.1 _ (ap (λ s. s.me.0.view) c.set_held.ensures.seat ∙ told.3.0) ((told.2 c.args.site.now.table.shared.key c.requires.own.plan).within) c.requires.out c.requires.numbered (ap (λ s. s.table_id) c.set_held.ensures.seat ∙ c.step-count.ensures.own.0) (ap (λ s. s.me.1) c.set_held.ensures.seat ∙ told.3.1) (c.set_held.ensures.face ∙ ap (λ (f : Face). record f { held = Shared }) c.step-count.ensures.face) c.requires.own) c.step-count.ensures.goes_on c.step-count.ensures.last c.set_held.ensures.seat
