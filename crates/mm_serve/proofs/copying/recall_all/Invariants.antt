use Rattle.std.proofs.Common.{◌≡◌, ℕ, ◌<◌, slice_get, Some}
use Rattle.std.specs.Prelude.{slice_index_or}
use Rattle.lock_core.specs.Pasts.{GoesOn}
use Rattle.mm_serve.specs.Workers.{EachOf}
use Rattle.mm_serve.proofs.copying.recall_all.Given as goal

abbrev pub invariant-loop-object : goal.invariant-loop-object
invariant-loop-object g l = record {
  rest : EachOf (λ k s p. g.S.SharedObject.idle s p) l.sites l.gathered.items;
  hands : (k : ℕ) (p : g.row.S-Pass.Denot) → g.S.SharedObject.hand (slice_index_or l.gathered.items k p) ≡ g.S.SharedObject.hand (slice_index_or l.fn.gathered.items k p);
  goes_on : (k : ℕ) (p : g.row.S-Pass.Denot) → GoesOn (g.S.SharedObject.past (slice_index_or l.fn.gathered.items k p)) (g.S.SharedObject.past (slice_index_or l.gathered.items k p));
  queues : (k : ℕ) (p : g.row.S-Pass.Denot) → GoesOn (g.S.SharedObject.spun (slice_index_or l.fn.gathered.items k p)) (g.S.SharedObject.spun (slice_index_or l.gathered.items k p));
  past : (k : ℕ) (s : g.row.S.Denot) (p : g.row.S-Pass.Denot) → k < l.object → slice_get l.sites k ≡ Some s → slice_get l.gathered.items k ≡ Some p → g.S.SharedObject.knows_past s p;
}
