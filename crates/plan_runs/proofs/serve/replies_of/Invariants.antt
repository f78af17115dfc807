use Rattle.std.proofs.Common.{◌≡◌, Some, None}
use Rattle.lock_core.specs.declared.view.Held.TheVariants.{No}
use Rattle.plan_runs.proofs.serve.replies_of.Given as goal

abbrev pub invariant-loop-call : goal.invariant-loop-call
invariant-loop-call g l =
    g.L.SiteLock.sits l.guarded.lock l.pass
    × ((g.L.SiteLock.view l.pass).hand.task ≡ Some l.task)
    × ((g.L.SiteLock.view l.pass).hand.held ≡ No)
    × ((g.L.SiteLock.view l.pass).hand.sent ≡ None)
    × ((g.L.SiteLock.view l.pass).hand.consumed ≡ 0)
