use Rattle.std.proofs.Common.{◌≡◌, ℕ, length}
use Rattle.std.specs.Prelude.{slice_index_or}
use Rattle.lock_core.specs.Pasts.{GoesOn}
use Rattle.mm_serve.specs.Workers.{EachOf}
use Rattle.mm_serve.specs.MachineCopying.{IsCopied, IsToCopy}
use Rattle.mm_serve.proofs.Each.{Between}
use Rattle.mm_serve.proofs.copying.snapshot_all.Given as goal

abbrev pub invariant-loop-object : goal.invariant-loop-object
invariant-loop-object g l = (length l.results ≡ length l.sites) × EachOf (Between (IsCopied g.S.SharedObject.idle g.S.SharedObject.hand g.S.SharedObject.past g.S.SharedObject.is_space g.S.SharedObject.calls_on l.results) (IsToCopy g.S.SharedObject.idle g.S.SharedObject.hand g.S.SharedObject.is_space g.S.SharedObject.calls_on l.results) l.object) l.sites l.gathered.items × ((k : ℕ) (p : g.row.S-Pass.Denot) → GoesOn (g.S.SharedObject.spun (slice_index_or l.fn.gathered.items k p)) (g.S.SharedObject.spun (slice_index_or l.gathered.items k p))) × ((k : ℕ) (p : g.row.S-Pass.Denot) → GoesOn (g.S.SharedObject.past (slice_index_or l.fn.gathered.items k p)) (g.S.SharedObject.past (slice_index_or l.gathered.items k p)))
