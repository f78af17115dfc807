use Rattle.std.proofs.Common.{length, ◌+◌, ◌*◌, arith, inl, refl}
use Rattle.lock_core.specs.Views.{hearing}
use Rattle.lock_core.specs.SitePasses.{Hears}
use Rattle.lock_core.proofs.SiteLaws.{heeds}
use Rattle.lock_core.proofs.SignalWords.{hears-there}
use Rattle.lock_core.proofs.Storing.{stored-site}
use Rattle.lock_core.proofs.site.Site.load_sent.Goals as goal
use Rattle.lock_core.specs.declared.layout.TheConstants.{LINES_AT}

pub step_stored-requires-clause-lets : goal.step_stored-requires-clause-lets
step_stored-requires-clause-lets g c = let k = c.args.self.now.table.shared.key in let R = g.R.SiteRule in let O = g.R.O.Object in let l = g.met.R.SiteRule in let h = c.args.pass.now.seat.me.0.view.hand in
    heeds O.object R.unavailable O.WORDS k R.rests (R.holds k) (R.moves k) R.word_at (l.site_kept k) (l.sites k) Hears _ _ (LINES_AT + (8 * c.args.task + 1)) _
    (λ s hs r at. let t = hears-there O.object R.unavailable O.WORDS k s hs c.args.pass.now.seat.id c.args.task (LINES_AT + (8 * c.args.task + 1)) h c.requires.mine c.requires.there (omega arith) r at in (hearing h t.0, (t.0, t.1, refl), (refl, inl refl, (refl, inl (refl, refl))), t.2, (record { misses = omega arith; freed = λ _. refl; takes = omega arith; comes = λ l. omega (arith, l) }, refl, refl)))

pub step_stored-requires-clause-there : goal.step_stored-requires-clause-there
step_stored-requires-clause-there g c = stored-site (length c.args.self.now.table.shared.key) (LINES_AT + (8 * c.args.task + 1)) c.args.self.now.site_at c.args.self.now.small.tasks c.args.self.now.behind
