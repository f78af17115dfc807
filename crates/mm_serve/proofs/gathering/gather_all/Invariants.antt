use Rattle.std.proofs.Common.{◌≡◌, length, take, vec_len}
use Rattle.mm_serve.specs.Workers.{EachOf, KnowsFrom, TakesUp}
use Rattle.mm_serve.proofs.gathering.gather_all.Given as goal

abbrev pub invariant-loop-worker : goal.invariant-loop-worker
invariant-loop-worker g l = (l.workers.items ≡ take (length l.workers.items) l.fn.workers.items) × EachOf (λ k s p. g.S.SharedObject.idle s p × KnowsFrom (TakesUp g.S.SharedObject.hand g.S.SharedObject.past g.S.SharedObject.spun) (length l.workers.items) l.fn.workers.items k p) l.sites l.gathered.items

abbrev pub decreases-loop-worker : goal.decreases-loop-worker
decreases-loop-worker g l = vec_len l.workers
