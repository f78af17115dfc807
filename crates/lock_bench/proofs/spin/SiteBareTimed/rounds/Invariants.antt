use Rattle.std.proofs.Common.{◌≡◌, ◌+◌}
use Rattle.lock_core.specs.SiteHandles.{hand_in, view_of}
use Rattle.qspin_queue.specs.SpinQueueHandles.{IsReady}
use Rattle.lock_bench.proofs.spin.SiteBareTimed.rounds.Given as goal

abbrev pub invariant-loop : goal.invariant-loop
invariant-loop g l = IsReady l.self l.worker × (hand_in l.worker ≡ hand_in l.initial.worker) × ((view_of l.worker).spin.entries ≡ (view_of l.fn.worker).spin.entries + l.counter)
