use Rattle.std.proofs.Common.{ap, ◌∙◌}
use Rattle.osq_nodes.specs.OsqRuled.{V}
use Rattle.osq_nodes.specs.Words.{tail_at}
use Rattle.osq_nodes.proofs.Owning.{since-later}
use Rattle.osq_unqueue.proofs.lock.Goals as goal

pub returns-then-spin-clause-found : goal.returns-then-spin-clause-found
returns-then-spin-clause-found g c = since-later _ _ tail_at _ _ _ _ _ c.spin.ensures.found c.enter.ensures.found c.spin.ensures.on.goes_on

pub returns-in_default-unlink-clause-found : goal.returns-in_default-unlink-clause-found
returns-in_default-unlink-clause-found g c = since-later _ _ tail_at _ _ _ _ _ (c.unlink.ensures.found ∙ c.spin.ensures.found) c.enter.ensures.found (λ p t. c.unlink.ensures.on.goes_on p (c.spin.ensures.on.goes_on p t))

pub returns-in-Some-wait_next-clause-found : goal.returns-in-Some-wait_next-clause-found
returns-in-Some-wait_next-clause-found g c = since-later _ _ tail_at _ _ _ _ _ (ap (λ (v : V). v.ext.found) c.relink.ensures.kept ∙ (ap (λ (v : V). v.ext.found) c.splice.ensures.kept ∙ (c.wait_next.ensures.found ∙ (c.unlink.ensures.found ∙ c.spin.ensures.found)))) c.enter.ensures.found
    (λ p t. c.relink.ensures.on.goes_on p (c.splice.ensures.on.goes_on p (c.wait_next.ensures.on.goes_on p (c.unlink.ensures.on.goes_on p (c.spin.ensures.on.goes_on p t)))))

pub returns-in_default-wait_next-clause-found : goal.returns-in_default-wait_next-clause-found
returns-in_default-wait_next-clause-found g c = since-later _ _ tail_at _ _ _ _ _ (c.wait_next.ensures.found ∙ (c.unlink.ensures.found ∙ c.spin.ensures.found)) c.enter.ensures.found (λ p t. c.wait_next.ensures.on.goes_on p (c.unlink.ensures.on.goes_on p (c.spin.ensures.on.goes_on p t)))
