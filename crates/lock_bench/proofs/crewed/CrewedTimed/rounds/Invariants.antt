use Rattle.std.proofs.Common.{◌≡◌, ◌+◌}
use Rattle.lock_bench.specs.RoundsBetween.{IsBetween, takes_in}
use Rattle.lock_bench.proofs.crewed.CrewedTimed.rounds.Given as goal

abbrev pub invariant-loop-number : goal.invariant-loop-number
invariant-loop-number g l = record {
  own : g.L.SiteLock.sits l.self.lock l.worker.pass;
  between : IsBetween (g.L.SiteLock.view l.worker.pass);
  takes : takes_in (g.L.SiteLock.view l.worker.pass) ≡ takes_in (g.L.SiteLock.view l.fn.worker.pass) + l.number;
}
