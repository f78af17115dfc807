-- What making room does to the bytes that wait.
use Rattle.std.specs.Prelude.{ℕ, List, Option, Result, Ok, Err}
use Rattle.byte_streams.specs.Causes.{Fronts, IsOnItsWay}

-- at Ok a front of what waited was written and the rest waits, at Err a front of it was written
abbrev pub MakesRoom : {E : Type 0} → Option (List ℕ) → Option (List ℕ) → (before now : List ℕ) → Result (Unit {0}) E → Type 0
MakesRoom old new before now (Ok u) = IsOnItsWay old new now before
MakesRoom old new before now (Err e) = Fronts old new before
