use Rattle.std.proofs.Common.{refl}
use Rattle.lock_core.specs.Pasts.{Moves}
use Rattle.lock_core.specs.Laws.SiteRun.{ran-each, ran-so}
use Rattle.lock_core.specs.SiteStated.{IsSiteMove}
use Rattle.rwsem_count.specs.CountRuled.{CountRuleKept, CountMoves, IsCountSiteThen, newest, count_at}
use Rattle.rwsem_count.specs.Laws.CountRuled.{rule-states}
use Rattle.rwsem_count.specs.CountStated.{kept_bias}
use Rattle.rwsem_count.proofs.site.CountSite.recall_count.Goals as goal

pub returns-clause-always : goal.returns-clause-always
returns-clause-always g c = let k = c.args.self.now.site.table.shared.key in let o = g.O.Object.object in let n = g.O.Object.WORDS in let own = c.recall.ensures.on.last in
    ran-each kept_bias (CountRuleKept o n k) (CountMoves k) (IsCountSiteThen o n k) (rule-states o n k) (newest k) own.now own.before own.rest _ own.past_is c.recall.ensures.run

pub returns-clause-moves : goal.returns-clause-moves
returns-clause-moves g c = let k = c.args.self.now.site.table.shared.key in let o = g.O.Object.object in let n = g.O.Object.WORDS in
    ran-so kept_bias (newest k) (Moves (CountRuleKept o n k) (CountMoves k)) (IsSiteMove k count_at) (λ x y m. (m.0, m.3, m.4)) _ c.recall.ensures.run

pub returns-clause-linear : goal.returns-clause-linear
returns-clause-linear g c = c.recall.ensures.linear refl
