use Rattle.std.proofs.Common.{get_or, length}
use Rattle.lock_core.specs.Layout.{site}
use Rattle.lock_core.specs.Pasts.{opening}
use Rattle.qspin_word.proofs.Turning.{numbers}
use Rattle.qspin_queue.proofs.Recalling.{counts-spin, each-lock, each-move}
use Rattle.qspin_queue.proofs.laws.recall_spin_lock.Goals as goal

pub returns-clause-begins : goal.returns-clause-begins
returns-clause-begins g c = c.recall.ensures.run.2

pub returns-clause-always : goal.returns-clause-always
returns-clause-always g c = let k = c.args.site.now.table.shared.key in let R = g.H.SiteRule in let own = c.recall.ensures.on.last in
    each-lock R.marks (R.holds k) (R.moves k) g.H.SpinHost.LOCKS (length k) g.H.SpinHost.FIRST (g.met.H.SpinHost.spin_kept k) (λ ws vs h. numbers g.H.O.Object.object R.unavailable g.H.O.Object.WORDS k (site k ws) vs (g.met.H.SiteRule.site_kept k ws vs h)) (opening R.marks k R.idle) own.now own.before own.rest _ own.past_is c.recall.ensures.run

pub returns-clause-moves : goal.returns-clause-moves
returns-clause-moves g c = let k = c.args.site.now.table.shared.key in let R = g.H.SiteRule in
    each-move R.marks (R.holds k) (R.moves k) g.H.SpinHost.LOCKS (length k) g.H.SpinHost.FIRST (g.met.H.SpinHost.spin_moves k)
    (λ id ws us vs vs' h m. counts-spin id (get_or ws R.word_at 0) (site k ws) (site k us) vs vs' (g.met.H.SiteRule.site_moves k id ws us vs vs' (g.met.H.SiteRule.site_kept k ws vs h) m)) (opening R.marks k R.idle) _ c.recall.ensures.run
