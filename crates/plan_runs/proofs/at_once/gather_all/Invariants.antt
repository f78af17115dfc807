use Rattle.std.proofs.Common.{◌≡◌, ℕ, ◌<◌, ◌≤◌, length, take, vec_len, None}
use Rattle.lock_core.specs.Kinds.{unavailable}
use Rattle.guarded.specs.Gathering.{HasDoneAll}
use Rattle.plan_runs.proofs.at_once.gather_all.Given as goal

abbrev pub invariant-loop-pass : goal.invariant-loop-pass
invariant-loop-pass g l =
    (l.members.items ≡ take (length l.members.items) l.fn.members.items)
    × g.L.SiteLock.sits l.guarded.lock l.into
    × ((g.L.SiteLock.view l.into).hand.task ≡ None)
    × ((t : ℕ) → length l.members.items ≤ t → t < length l.fn.members.items → HasDoneAll g.O.Object.object (unavailable g.L.SleepLock.kind) (g.L.SiteLock.calls_on l.guarded.lock) (g.L.SiteLock.view l.into).hand t)

abbrev pub decreases-loop-pass : goal.decreases-loop-pass
decreases-loop-pass g l = vec_len l.members
