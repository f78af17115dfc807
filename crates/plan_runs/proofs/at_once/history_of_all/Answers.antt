use Rattle.std.proofs.Common.{List, length, sym, subst, rules}
use Rattle.lock_core.specs.Kinds.{unavailable}
use Rattle.guarded.proofs.Gathered.{whole}
use Rattle.plan_runs.specs.CallsBetween.{MembersHaveDone}
use Rattle.plan_runs.proofs.at_once.history_of_all.Goals as goal

pub gather_all-requires-clause-done : goal.gather_all-requires-clause-done
gather_all-requires-clause-done g c =
    let k = g.L.SiteLock.calls_on c.in_ok-guarded.guarded.lock in
    subst (λ (ms : List (g.row.L-Pass.Denot × g.row.C-C.Denot)). MembersHaveDone g.O.Object.object (unavailable g.L.SleepLock.kind) k (g.L.SiteLock.sits c.in_ok-guarded.guarded.lock) g.L.SiteLock.view (length k) ms)
    (sym (whole c.in_ok-members.members.len c.serve_each.new.members c.in_ok-members.members.items (search rules) (search rules)))
    (subst (λ n. MembersHaveDone g.O.Object.object (unavailable g.L.SleepLock.kind) k (g.L.SiteLock.sits c.in_ok-guarded.guarded.lock) g.L.SiteLock.view n c.serve_each.new.members) (search rules) c.serve_each.ensures)
