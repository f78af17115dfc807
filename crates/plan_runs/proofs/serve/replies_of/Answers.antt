use Rattle.std.proofs.Common.{ap, ◌∙◌}
use Rattle.lock_core.specs.declared.view.Hand.{Hand}
use Rattle.plan_runs.proofs.serve.replies_of.Goals as goal

pub loop-call-init : goal.loop-call-init
loop-call-init g c =
    let none = (g.met.L.SleepLock.stands c.args.guarded.now.lock c.args.pass.now c.requires.own).nameless c.requires.numberless in
    let now = c.begin.ensures.became.4 in (
      c.begin.ensures.on.own,
      ap {A = Hand} (λ h. h.task) now,
      ap {A = Hand} (λ h. h.held) now ∙ none.0,
      ap {A = Hand} (λ h. h.sent) now ∙ none.1,
      ap {A = Hand} (λ h. h.consumed) now ∙ none.2,
    )
