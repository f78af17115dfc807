use Rattle.std.proofs.Common.{ap, ◌∙◌}
use Rattle.lock_core.specs.declared.view.Hand.{Hand}
use Rattle.lock_bench.proofs.nested.SiteNestTimed.rounds.Goals as goal

pub end-requires-clause-rests : goal.end-requires-clause-rests
end-requires-clause-rests g c = let at = c.loop.invariant in
    ((ap {A = Hand} (λ h. h.held) at.1 ∙ c.start.ensures.rests.0, at.0.out 0), at.0.out)

pub end-requires-clause-recorded : goal.end-requires-clause-recorded
end-requires-clause-recorded g c = let at = c.loop.invariant in
    (ap {A = Hand} (λ h. h.sent) at.1 ∙ c.start.ensures.recorded.0, ap {A = Hand} (λ h. h.consumed) at.1 ∙ c.start.ensures.recorded.1)
