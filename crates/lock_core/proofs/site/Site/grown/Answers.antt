use Rattle.lock_core.specs.Laws.SiteRun.{ran-so}
use Rattle.lock_core.specs.SiteStated.{IsSiteMoveWhere}
use Rattle.lock_core.specs.Pasts.{opening, Moves}
use Rattle.lock_core.proofs.site.Site.grown.Goals as goal

pub returns-clause-moves : goal.returns-clause-moves
returns-clause-moves g c = let k = c.args.self.now.table.shared.key in let R = g.R.SiteRule in let l = g.met.R.SiteRule in
    ran-so R.marks (opening R.marks k R.idle) (Moves (R.holds k) (R.moves k)) (IsSiteMoveWhere R.reads_unheld k R.word_at) (λ x y m. (m.0, l.site_moves k m.0 x.words y.words x.views y.views (l.site_kept k x.words x.views m.1) m.3, m.4)) _ c.recall.ensures.run
