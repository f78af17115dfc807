-- A snapshot that is lent to be filled.
use Rattle.std.specs.Prelude.{ℕ, List, slice_set}
use Rattle.std.specs.Borrow.{Lends, MutBor, Fml}
use Rattle.word_bits.specs.Snapshots.{Words}
use Rattle.word_bits.specs.contracts.snapshot.Snapshot.{the_row as snapshot_row}
use Rattle.mm_report.specs.contracts.results.Results.{the_row}

-- the results end with the snapshot of the object set to the last value behind r
abbrev pub LendsSnapshot : MutBor (List Words) → ℕ → MutBor Words → Fml
LendsSnapshot results object r = Lends the_row snapshot_row results r (λ w. slice_set results.now object w)
