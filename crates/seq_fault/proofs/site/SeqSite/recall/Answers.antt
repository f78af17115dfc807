-- What the rule says of each moment and of each step.
use Rattle.std.proofs.Common.{true}
use Rattle.lock_core.specs.Pasts.{Moves}
use Rattle.lock_core.specs.Laws.Locked.{ran-steps-where}
use Rattle.lock_core.specs.Laws.SiteRun.{ran-each, ran-so}
use Rattle.lock_core.specs.SiteStated.{IsSiteMoveWhere}
use Rattle.seq_fault.specs.SeqRuled.{SeqKept, SeqMoves, newest, seq_at, unmarked}
use Rattle.seq_fault.specs.SeqStated.{IsSeqSiteThen}
use Rattle.seq_fault.proofs.Stating.{rule-states, counts-enters, stays-at-one-word}
use Rattle.seq_fault.proofs.site.SeqSite.recall.Goals as goal

pub returns-clause-always : goal.returns-clause-always
returns-clause-always g c = let k = c.args.self.now.site.table.shared.key in let o = g.O.Object.object in let n = g.O.Object.WORDS in let own = c.recall.ensures.on.last in
    ran-each unmarked (SeqKept o n k) (SeqMoves k) (IsSeqSiteThen o n k) (rule-states o n k) (newest k) own.now own.before own.rest _ own.past_is c.recall.ensures.run

pub returns-clause-entered : goal.returns-clause-entered
returns-clause-entered g c = let k = c.args.self.now.site.table.shared.key in counts-enters g.O.Object.object g.O.Object.WORDS k _ c.recall.ensures.run

pub returns-clause-stays : goal.returns-clause-stays
returns-clause-stays g c = let k = c.args.self.now.site.table.shared.key in stays-at-one-word g.O.Object.object g.O.Object.WORDS k _ c.recall.ensures.run

pub returns-clause-moves : goal.returns-clause-moves
returns-clause-moves g c = let k = c.args.self.now.site.table.shared.key in let o = g.O.Object.object in let n = g.O.Object.WORDS in
    ran-steps-where unmarked k seq_at true (newest k) _ (ran-so unmarked (newest k) (Moves (SeqKept o n k) (SeqMoves k)) (IsSiteMoveWhere true k seq_at) (λ x y m. (m.0, m.3.0, m.4)) _ c.recall.ensures.run)
