use Rattle.std.proofs.Common.{◌≡◌, [], All, length}
use Rattle.mm_serve.specs.Workers.{AreNumbered, EachOf, IsReady}
use Rattle.mm_serve.proofs.opening.open_workers.Given as goal

abbrev pub invariant-loop-task : goal.invariant-loop-task
invariant-loop-task g l =
    (length l.workers.items ≡ l.task)
    × EachOf (λ k s p. g.S.SharedObject.idle s p × ((g.S.SharedObject.hand p).seen ≡ [])) l.sites l.gathered.items
    × All (IsReady g.S.SharedObject.idle g.S.SharedObject.hand g.S.SharedObject.calls_on l.sites) l.workers.items
    × AreNumbered l.workers.items
