-- What a step on the owner hint tells its pass.
use Rattle.std.specs.Prelude.{ℕ}
use Rattle.atomic_table.specs.Table.{Step}
use Rattle.lock_core.specs.SitePlays.{Sat, Turns}
use Rattle.lock_core.specs.Views.{ticked}
use Rattle.rwsem_wake.specs.Types.{RwSemHand}

-- nothing but that it was made
abbrev pub Ticks : Step (Unit {0}) → Sat RwSemHand → ℕ → Sat RwSemHand → Type 0
Ticks st m n m' = Turns m (ticked m.0) m'
