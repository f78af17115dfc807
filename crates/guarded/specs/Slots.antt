-- A table of descriptors in its words, and what a call does to them.
use Rattle.std.specs.Prelude.{◌≡◌, ℕ, List}
use Rattle.lock_core.specs.Shown.{Shown}
use Rattle.fd_table.specs.Tables.{FdMap, IsFdMap, meaning, stores}
use Rattle.guarded.specs.Performing.{HasStored}
use Rattle.guarded.specs.Types.{Reply, TableCall}

-- the words store a table
abbrev pub AreTableWords : List ℕ → Type 0
AreTableWords words = (m : FdMap) × IsFdMap m × (stores m ≡ words)

-- the words store what the call makes of the table, and it replied so
pub record DoesTo (m : FdMap) (call : TableCall) (reply : Reply) (v u : Shown) : Type 0 where
  pub stored : HasStored (stores (meaning m call).0) v u
  pub replies : reply ≡ (meaning m call).1
