use Rattle.std.proofs.Common.{refl}
use Rattle.lock_core.specs.Laws.SiteRun.{ran-each}
use Rattle.percpu_rwsem.specs.PercpuRuled.{PercpuKept, PercpuMoves, kept_phase, newest}
use Rattle.percpu_rwsem.specs.PercpuStated.{IsPercpuSiteThen}
use Rattle.percpu_rwsem.proofs.Stating.{percpu-steps, rule-states}
use Rattle.percpu_rwsem.proofs.site.PercpuRwSem.recall.Goals as goal

pub returns-clause-always : goal.returns-clause-always
returns-clause-always g c = let k = c.args.self.now.site.table.shared.key in let o = g.O.Object.object in let n = g.O.Object.WORDS in let own = c.recall.ensures.on.last in
    ran-each kept_phase (PercpuKept o n k) (PercpuMoves k) (IsPercpuSiteThen o n k) (λ ws vs r. rule-states o n k ws vs r) (newest k) own.now own.before own.rest _ own.past_is c.recall.ensures.run

pub returns-clause-moves : goal.returns-clause-moves
returns-clause-moves g c = percpu-steps g.O.Object.object g.O.Object.WORDS c.args.self.now.site.table.shared.key (newest c.args.self.now.site.table.shared.key) _ c.recall.ensures.run

pub returns-clause-linear : goal.returns-clause-linear
returns-clause-linear g c = c.recall.ensures.linear refl
