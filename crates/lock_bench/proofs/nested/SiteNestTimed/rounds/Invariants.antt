use Rattle.std.proofs.Common.{◌≡◌, ◌+◌, ◌*◌}
use Rattle.lock_core.specs.SiteHandles.{hand_in}
use Rattle.qspin_word.specs.SpinWordHandles.{spin_in}
use Rattle.qspin_queue.specs.SpinQueueHandles.{IsApart}
use Rattle.lock_bench.proofs.nested.SiteNestTimed.rounds.Given as goal

abbrev pub invariant-loop : goal.invariant-loop
invariant-loop g l = IsApart l.self l.worker × (hand_in l.worker ≡ hand_in l.initial.worker) × ((spin_in l.worker).entries ≡ (spin_in l.fn.worker).entries + 2 * l.counter)
