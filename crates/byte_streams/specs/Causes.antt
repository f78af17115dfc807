-- When a call on a source or a sink may fail, and what it leaves.
use Rattle.std.specs.Prelude.{◌≡◌, ℕ, ◌+◌, ◌-◌, ◌^◌, ◌<◌, ◌≤◌, min, List, [], ◌++◌, Option, Result, Ok, Err}
use Rattle.std.specs.Io.KnownBytes.{Appends}

-- one more, as far as a count of 64 bits goes
abbrev pub one_more : ℕ → ℕ
one_more count = min (count + 1) (2 ^ 64 - 1)

-- the count has risen, or stands at its last value
abbrev pub Rose : ℕ → ℕ → Type 0
Rose before now = one_more before ≤ now

-- a call that went well leaves the count of faults, and one that failed raises it by one, as far as it goes
abbrev pub CountsFailure : {T E : Type 0} → (before now : ℕ) → Result T E → Type 0
CountsFailure before now (Ok v) = now ≡ before
CountsFailure before now (Err e) = now ≡ one_more before

-- only a read that gave a byte is counted
abbrev pub Counts : {E : Type 0} → (before now : ℕ) → Result ℕ E → Type 0
Counts before now (Ok n) = (0 < n → now ≡ one_more before) × (n ≡ 0 → now ≡ before)
Counts before now (Err e) = now ≡ before

-- only a read that gave nothing, since nothing is left, is counted
abbrev pub CountsEnd : {E : Type 0} → (before now : ℕ) → Result ℕ E → Type 0
CountsEnd before now (Ok n) = (0 < n → now ≡ before) × (n ≡ 0 → now ≡ one_more before)
CountsEnd before now (Err e) = now ≡ before

-- a front of the bytes was written
abbrev pub Fronts : Option (List ℕ) → Option (List ℕ) → List ℕ → Type 0
Fronts old new bytes = (front : List ℕ) × (rest : List ℕ) × (front ++ rest ≡ bytes) × Appends old new front

-- at Ok all of the bytes were written, at Err a front of them
abbrev pub Puts : {E : Type 0} → Option (List ℕ) → Option (List ℕ) → List ℕ → Result (Unit {0}) E → Type 0
Puts old new bytes (Ok u) = Appends old new bytes
Puts old new bytes (Err e) = Fronts old new bytes

-- of the text a front was written, and the rest waits
abbrev pub IsOnItsWay : Option (List ℕ) → Option (List ℕ) → (waiting text : List ℕ) → Type 0
IsOnItsWay old new waiting text = (front : List ℕ) × (front ++ waiting ≡ text) × Appends old new front

-- at Ok of a flush all that waited was written and nothing waits, at Err a front of it was written
abbrev pub Flushes : {E : Type 0} → Option (List ℕ) → Option (List ℕ) → (before now : List ℕ) → Result (Unit {0}) E → Type 0
Flushes old new before now (Ok u) = Appends old new before × (now ≡ [])
Flushes old new before now (Err e) = Fronts old new before

-- A text is added behind what waited. At Ok some of both was written and the rest waits, at Err a front of both was written.
abbrev pub Adds : {E : Type 0} → Option (List ℕ) → Option (List ℕ) → (before now text : List ℕ) → Result (Unit {0}) E → Type 0
Adds old new before now text (Ok u) = IsOnItsWay old new now (before ++ text)
Adds old new before now text (Err e) = Fronts old new (before ++ text)
