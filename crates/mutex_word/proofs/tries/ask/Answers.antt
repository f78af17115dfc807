use Rattle.std.proofs.Common.{arith, ap, sym, subst, length}
use Rattle.lock_core.proofs.Sitting.{sits-on}
use Rattle.lock_core.specs.Pasts.{unseen}
use Rattle.mutex_word.proofs.Sitting.{sits-saw}
use Rattle.mutex_word.proofs.Owning.{begs, saw-word}
use mathlib.Core.Logic.{dite}
use native.Mathlib.Decide.{ℕ_discrete}
use Rattle.lock_core.specs.Stores.{HasWord}
use Rattle.mutex_word.proofs.tries.ask.Goals as goal

pub step-requires-clause-there : goal.step-requires-clause-there
step-requires-clause-there g c = subst (HasWord (length c.args.site.now.table.shared.key)) (sym c.OWNER.ensures) (g.H.OwnerHost.own_there (length c.args.site.now.table.shared.key))

pub step-requires-clause-lets : goal.step-requires-clause-lets
step-requires-clause-lets g c = let k = c.args.site.now.table.shared.key in begs g.H.O.Object.object g.H.SiteRule.unavailable g.H.O.Object.WORDS k (g.H.SiteRule.holds k) (g.H.SiteRule.moves k) g.H.OwnerHost.OWNER g.H.OwnerHost.may_be g.H.OwnerHost.may_own g.H.OwnerHost.may_miss g.H.OwnerHost.turned (g.met.H.SiteRule.site_kept k) (g.met.H.OwnerHost.own_kept k) (g.met.H.OwnerHost.owns k) (g.met.H.OwnerHost.own_may k) (g.met.H.OwnerHost.own_looks k) _ _ _ _ _ g.A.TryKind.asks g.A.TryKind.counts _ c.OWNER.ensures c.requires.asks c.requires.may c.requires.fails

pub returns-clause-on : goal.returns-clause-on
returns-clause-on g c = record {
  own = dite (ℕ_discrete c.step.result c.args.word)
      (λ is. let turn = c.step.ensures.told.0 is in sits-on c.step.ensures.own.0 turn.1 (ap (λ v. v.hand) turn.0) (let n = ap (λ v. v.steps) turn.0 in omega (arith, n)) c.step.ensures.face c.requires.own)
      (λ not. let told = saw-word g.H.OwnerHost.turned g.A.TryKind.asks g.A.TryKind.counts (unseen c.args.pass.now.seat.me) (unseen c.step.new.pass.seat.me) c.step.result (c.step.ensures.told.1 not) in sits-saw g.H.OwnerHost.turned g.A.TryKind.asks g.A.TryKind.counts c.step.result c.step.ensures.own.0 told.1 told.0 c.step.ensures.face c.requires.own);
  goes_on = c.step.ensures.goes_on;
  last = c.step.ensures.last;
}

pub returns-clause-saw : goal.returns-clause-saw
returns-clause-saw g c = λ not. (saw-word g.H.OwnerHost.turned g.A.TryKind.asks g.A.TryKind.counts (unseen c.args.pass.now.seat.me) (unseen c.step.new.pass.seat.me) c.step.result (c.step.ensures.told.1 not)).0
