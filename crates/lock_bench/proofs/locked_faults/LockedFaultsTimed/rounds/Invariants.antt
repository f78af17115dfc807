use Rattle.std.proofs.Common.{◌≡◌, ◌≤◌, Some}
use Rattle.lock_bench.specs.RoundsBetween.{IsBetween}
use Rattle.lock_bench.proofs.locked_faults.LockedFaultsTimed.rounds.Given as goal

abbrev pub invariant-loop-call : goal.invariant-loop-call
invariant-loop-call g l = record {
  own : g.L.SiteLock.sits l.self.space.lock l.worker.pass;
  between : IsBetween (g.L.SiteLock.view l.worker.pass);
  task : (g.L.SiteLock.view l.worker.pass).hand.task ≡ Some l.task;
  next : (g.L.SiteLock.view l.worker.pass).hand.done ≡ l.call;
  within : l.call ≤ l.count;
}
