use Rattle.std.proofs.Common.{◌≡◌, ℕ, ◌+◌, set, ap, sym, subst}
use Rattle.lock_core.specs.Layout.{lay}
use Rattle.lock_core.specs.Views.{logged, entry_in}
use Rattle.lock_core.specs.Sites.{SiteKept, SiteStep}
use Rattle.lock_core.specs.Types.{Entry}
use Rattle.lock_core.proofs.WordLaws.{logs-there}
use Rattle.lock_core.proofs.site.Site.append.Goals as goal
use Rattle.lock_core.specs.declared.layout.TheConstants.{LENGTH_AT}

pub put-requires-clause-keeps : goal.put-requires-clause-keeps
put-requires-clause-keeps g c = λ s hs r at. let e = c.args.entry in let q = c.requires.change.1 in let n : c.args.k + 1 ≡ c.from.result + 1 = ap (λ z. z + 1) (sym c.from.ensures) in
    subst (λ (z : ℕ × Entry). let k = c.args.self.now.table.shared.key in SiteKept g.R.O.Object.object g.R.SiteRule.unavailable g.R.O.Object.WORDS k (lay k (set s LENGTH_AT z.0)) (set hs c.args.pass.now.seat.id (logged c.args.pass.now.seat.me.0.view.hand z.1)) × SiteStep g.R.SiteRule.reads_unheld (c.args.pass.now.seat.me.0.view.steps + 1) (lay k s) (lay k (set s LENGTH_AT z.0)) c.args.pass.now.seat.me.0.view.hand (logged c.args.pass.now.seat.me.0.view.hand z.1))
    (λ i. (n i, sym (ap entry_in c.requires.entered) i)) (logs-there g.R.O.Object.object g.R.SiteRule.unavailable g.R.O.Object.WORDS c.args.self.now.table.shared.key s hs c.args.pass.now.seat.id c.args.k e c.args.pass.now.seat.me.0.view.hand q.words q.call r at c.requires.held c.requires.entered c.requires.task c.requires.call c.requires.length c.requires.room q.planned q.is q.stored)
