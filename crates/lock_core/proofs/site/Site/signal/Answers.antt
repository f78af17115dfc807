use Rattle.std.proofs.Common.{ℕ, ◌+◌, ◌*◌, refl, sym, ap, ◌∙◌, subst, IsSome}
use Rattle.lock_core.specs.Views.{sending, handed}
use Rattle.lock_core.proofs.SignalWords.{line-back, signals-there, Sends}
use Rattle.lock_core.proofs.site.Site.signal.Goals as goal
use Rattle.lock_core.specs.declared.layout.TheConstants.{LINES_AT}

pub add-requires-clause-keeps : goal.add-requires-clause-keeps
add-requires-clause-keeps g c = λ s hs r at. let k = c.args.self.now.table.shared.key in let h = c.args.pass.now.seat.me.0.view.hand in let t = c.args.target in
    subst (λ (z : ℕ). Sends g.R.O.Object.object g.R.SiteRule.unavailable g.R.O.Object.WORDS k g.R.SiteRule.reads_unheld (c.args.pass.now.seat.me.0.view.steps + 1) s hs c.args.pass.now.seat.id h z (LINES_AT + 8 * t + 1)) (sym (line-back t))
    (signals-there g.R.O.Object.object g.R.SiteRule.unavailable g.R.O.Object.WORDS k s hs c.args.pass.now.seat.id t (LINES_AT + 8 * t + 1) h (subst IsSome c.requires.own.task c.requires.numbered) c.requires.unsent c.requires.there c.requires.next refl r at)

pub returns-clause-kept : goal.returns-clause-kept
returns-clause-kept g c = let v = c.args.pass.now.seat.me.0.view in c.add.ensures.kept ∙ ap (λ (z : ℕ). handed v (sending v.hand z)) (line-back c.args.target)
