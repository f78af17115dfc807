use Rattle.std.proofs.Common.{◌≡◌, ◌≤◌, length, take, vec_len}
use Rattle.mm_serve.specs.Workers.{HaveGathered, TakesUp}
use Rattle.mm_serve.proofs.gathering.gather_passes.Given as goal

abbrev pub invariant-loop-pass : goal.invariant-loop-pass
invariant-loop-pass g l = (l.passes.items ≡ take (length l.passes.items) l.fn.passes.items) × (length l.passes.items ≤ length l.sites) × HaveGathered g.S.SharedObject.idle (TakesUp g.S.SharedObject.hand g.S.SharedObject.past g.S.SharedObject.spun) (length l.passes.items) l.sites l.fn.gathered.items l.fn.passes.items l.gathered.items

abbrev pub decreases-loop-pass : goal.decreases-loop-pass
decreases-loop-pass g l = vec_len l.passes
