use Rattle.std.proofs.Common.{ap, ◌∙◌}
use Rattle.osq_nodes.specs.OsqRuled.{V}
use Rattle.osq_nodes.specs.Words.{tail_at}
use Rattle.osq_nodes.proofs.Owning.{since-later}
use Rattle.osq_nodes.proofs.queue.Osq.wait.Goals as goal

pub returns-then-is_granted-clause-found : goal.returns-then-is_granted-clause-found
returns-then-is_granted-clause-found g c = since-later _ _ tail_at _ _ _ _ _ (ap (λ (v : V). v.ext.found) c.if-is_granted.ensures.kept ∙ ap (λ x. x.found) c.loop.invariant.3) c.enter.ensures.found (λ p t. c.is_granted.ensures.on.goes_on p (c.loop.invariant.7 p t))
