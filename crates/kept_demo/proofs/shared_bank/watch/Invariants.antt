use Rattle.std.proofs.Common.{◌≡◌}
use Rattle.kept_demo.proofs.shared_bank.watch.Given as goal

abbrev pub invariant-loop : goal.invariant-loop
invariant-loop g l = l.apart ≡ 0
