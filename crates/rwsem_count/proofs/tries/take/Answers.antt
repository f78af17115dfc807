use Rattle.std.proofs.Common.{◌∙◌, arith, ap, subst, sym, length}
use Rattle.rwsem_count.specs.Types.{Face, Shared, Clear}
use Rattle.lock_core.specs.Pasts.{unseen}
use Rattle.rwsem_count.proofs.Counting.{reader-gets}
use Rattle.lock_core.proofs.Sitting.{noted-on, sits-took, some-number}
use Rattle.rwsem_count.proofs.Trying.{saw-word}
use Rattle.rwsem_count.proofs.Sitting.{sits-saw}
use Rattle.lock_core.specs.Stores.{HasWord}
use Rattle.rwsem_count.proofs.tries.take.Goals as goal

pub step-found-requires-clause-there : goal.step-found-requires-clause-there
step-found-requires-clause-there g c = subst (HasWord (length c.args.site.now.table.shared.key)) (sym c.COUNT.ensures) (g.H.CountHost.count_there (length c.args.site.now.table.shared.key))

pub step-found-requires-clause-lets : goal.step-found-requires-clause-lets
step-found-requires-clause-lets g c = let k = c.args.site.now.table.shared.key in let t = some-number c.args.pass.now.face.task c.requires.numbered in reader-gets g.H.O.Object.object g.H.SiteRule.unavailable g.H.O.Object.WORDS k g.H.CountHost.bias g.H.CountHost.counted (g.H.SiteRule.holds k) (g.H.SiteRule.moves k) g.H.CountHost.COUNT g.H.CountHost.may_be (g.H.CountHost.more k) g.H.CountHost.may_count g.H.CountHost.may_miss (g.met.H.SiteRule.site_kept k) (g.met.H.CountHost.count_kept k) (g.met.H.CountHost.counts k) (g.met.H.CountHost.count_looks k) _ _ _ t.0 _ _ c.COUNT.ensures (sym c.requires.own.task ∙ t.1) (sym c.requires.own.held ∙ c.requires.out) c.requires.clear c.requires.free c.requires.may c.requires.misses

pub returns-then-found-word-clause-on : goal.returns-then-found-word-clause-on
returns-then-found-word-clause-on g c = let told = c.step-found.ensures.told.0 c.if-found-word.true in
    noted-on c.step-found.new.pass (sits-took {me = c.args.pass.now.seat.me} Shared told.0 told.1 _ (ap (λ s. s.me.0.view) c.set_held.ensures.seat ∙ told.3.0) ((told.2 c.args.site.now.table.shared.key c.requires.own.plan).within) c.requires.out c.requires.numbered (ap (λ s. s.table_id) c.set_held.ensures.seat ∙ c.step-found.ensures.own.0) (ap (λ s. s.me.1) c.set_held.ensures.seat ∙ told.3.1) (c.set_held.ensures.face ∙ ap (λ (f : Face). record f { held = Shared }) c.step-found.ensures.face) c.requires.own) c.step-found.ensures.goes_on c.step-found.ensures.last c.set_held.ensures.seat

pub returns-else-found-word-clause-on : goal.returns-else-found-word-clause-on
returns-else-found-word-clause-on g c = record {
  own = sits-saw _ (c.step-found.ensures.told.1 c.if-found-word.false) c.step-found.ensures.own.0 c.step-found.ensures.face c.requires.own;
  goes_on = c.step-found.ensures.goes_on;
  last = c.step-found.ensures.last;
}

pub returns-else-found-word-clause-saw : goal.returns-else-found-word-clause-saw
returns-else-found-word-clause-saw g c = λ not. saw-word (unseen c.args.pass.now.seat.me) (unseen c.step-found.new.pass.seat.me) c.step-found.result (c.step-found.ensures.told.1 not)
