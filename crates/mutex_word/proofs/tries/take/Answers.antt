use Rattle.std.proofs.Common.{ap, sym, subst, ◌∙◌, false, length}
use Rattle.lock_core.specs.Pasts.{unseen}
use Rattle.mutex_word.specs.Types.{Face, Alone, Take}
use Rattle.mutex_word.proofs.Sitting.{sits-saw}
use Rattle.lock_core.proofs.Sitting.{noted-on, sits-took, some-number}
use Rattle.mutex_word.proofs.Owning.{gets, saw-word}
use Rattle.lock_core.specs.Stores.{HasWord}
use Rattle.mutex_word.proofs.tries.take.Goals as goal

pub step-found-requires-clause-there : goal.step-found-requires-clause-there
step-found-requires-clause-there g c = subst (HasWord (length c.args.site.now.table.shared.key)) (sym c.OWNER.ensures) (g.H.OwnerHost.own_there (length c.args.site.now.table.shared.key))

pub step-found-requires-clause-lets : goal.step-found-requires-clause-lets
step-found-requires-clause-lets g c = let k = c.args.site.now.table.shared.key in let t = some-number c.args.pass.now.face.task c.requires.numbered in gets g.H.O.Object.object g.H.SiteRule.unavailable g.H.O.Object.WORDS k (g.H.SiteRule.holds k) (g.H.SiteRule.moves k) g.H.OwnerHost.OWNER g.H.OwnerHost.may_be g.H.OwnerHost.may_own g.H.OwnerHost.may_miss g.H.OwnerHost.turned (g.met.H.SiteRule.site_kept k) (g.met.H.OwnerHost.own_kept k) (g.met.H.OwnerHost.owns k) (g.met.H.OwnerHost.own_may k) (g.met.H.OwnerHost.own_looks k) _ _ _ t.0 _ _ g.A.TryKind.asks g.A.TryKind.counts _ c.OWNER.ensures (sym c.requires.own.task ∙ t.1) (sym c.requires.own.held ∙ c.requires.out) (c.requires.takes t.0 t.1) c.requires.may c.requires.fails

pub returns-then-found-word-clause-on : goal.returns-then-found-word-clause-on
returns-then-found-word-clause-on g c = let told = c.step-found.ensures.told.0 c.if-found-word.true in let seat = c.set_held.ensures.seat in let k = c.args.site.now.table.shared.key in
    noted-on c.step-found.new.pass (sits-took Alone told.0 told.1 (g.H.OwnerHost.turned Take c.args.pass.now.seat.me.0.view) (ap (λ s. s.me.0.view) seat ∙ told.3.0) ((told.2 k c.requires.own.plan).within) c.requires.out c.requires.numbered (ap (λ s. s.table_id) seat ∙ c.step-found.ensures.own.0) (ap (λ s. s.me.1) seat ∙ told.3.1) (c.set_held.ensures.face ∙ ap (λ (f : Face). record f { held = Alone }) c.step-found.ensures.face) c.requires.own) c.step-found.ensures.goes_on c.step-found.ensures.last c.set_held.ensures.seat

pub returns-else-found-word-clause-on : goal.returns-else-found-word-clause-on
returns-else-found-word-clause-on g c = record {
  own = let told = saw-word g.H.OwnerHost.turned g.A.TryKind.asks g.A.TryKind.counts (unseen c.args.pass.now.seat.me) (unseen c.step-found.new.pass.seat.me) c.step-found.result (c.step-found.ensures.told.1 c.if-found-word.false) in sits-saw g.H.OwnerHost.turned g.A.TryKind.asks g.A.TryKind.counts c.step-found.result c.step-found.ensures.own.0 told.1 told.0 c.step-found.ensures.face c.requires.own;
  goes_on = c.step-found.ensures.goes_on;
  last = c.step-found.ensures.last;
}

pub returns-else-found-word-clause-saw : goal.returns-else-found-word-clause-saw
returns-else-found-word-clause-saw g c = λ not. (saw-word g.H.OwnerHost.turned g.A.TryKind.asks g.A.TryKind.counts (unseen c.args.pass.now.seat.me) (unseen c.step-found.new.pass.seat.me) c.step-found.result (c.step-found.ensures.told.1 not)).0
