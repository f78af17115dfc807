use Rattle.std.proofs.Common.{◌≡◌, [], All, length, max, replicate}
use Rattle.mm_serve.proofs.planning.empty_plans.Given as goal

abbrev pub invariant-loop : goal.invariant-loop
invariant-loop l =
    (length l.plans.items ≡ l.counter)
    × All (λ plan. plan ≡ replicate (max (length l.script.tasks) 1) []) l.plans.items
