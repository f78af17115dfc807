use Rattle.std.proofs.Common.{◌≡◌, length}
use Rattle.plan_runs.specs.CallsBetween.{AreFresh, IsFresh}
use Rattle.plan_runs.proofs.at_once.members_of.Given as goal

abbrev pub invariant-loop-task : goal.invariant-loop-task
invariant-loop-task g l =
    g.L.SiteLock.sits l.guarded.lock l.first
    × IsFresh (g.L.SiteLock.view l.first)
    × AreFresh (g.L.SiteLock.sits l.guarded.lock) g.L.SiteLock.view l.members.items
    × (length l.members.items ≡ l.task)
