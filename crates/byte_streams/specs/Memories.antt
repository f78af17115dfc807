-- A source and a sink over memory.
use Rattle.std.specs.Prelude.{◌≡◌, ℕ, ◌-◌, ◌==◌, Bool, true, false, List, ◌++◌, take, drop, length, min, Result, Ok, Err}
use Rattle.std.specs.List.{list_any}
use Rattle.byte_streams.specs.Causes.{one_more}

-- the bytes that are left, how many of them a call gives at most, and which calls fail
pub record Supply : Type 0 where
  pub left : List ℕ
  pub step : ℕ
  pub fails : List ℕ
  pub calls : ℕ
  pub faults : ℕ
  pub gave : ℕ
  pub ended : ℕ

-- the bytes that were taken, how many fit in all, how many a call takes at most, and which calls fail
pub record Store : Type 0 where
  pub written : List ℕ
  pub room : ℕ
  pub step : ℕ
  pub fails : List ℕ
  pub calls : ℕ
  pub faults : ℕ

-- a call of this number fails
abbrev pub is_among : List ℕ → ℕ → Bool
is_among fails call = list_any (λ n. n == call) fails

-- how many bytes a call gives that asks for so many
abbrev pub given : Supply → ℕ → ℕ
given s room = min (min s.step room) (length s.left)

-- how many bytes of a piece of this length a call takes
abbrev pub taken : Store → ℕ → ℕ
taken s size = min (min s.step size) (s.room - length s.written)

-- a read fails where its call does, and else gives as many bytes as it can
abbrev pub Supplies : {E : Type 0} → (old new : Supply) → (room : ℕ) → Result ℕ E → Type 0
Supplies old new room (Ok n) =
    (is_among old.fails old.calls ≡ false) × (n ≡ given old room) × (new ≡ record old { left = drop n old.left; calls = one_more old.calls; gave = new.gave; ended = new.ended })
Supplies old new room (Err e) = (is_among old.fails old.calls ≡ true) × (new ≡ record old { calls = one_more old.calls; faults = one_more old.faults })

-- a write fails where its call does or no room is left, and else takes as many bytes as it can
abbrev pub Stores : {E : Type 0} → (old new : Store) → (piece : List ℕ) → Result ℕ E → Type 0
Stores old new piece (Ok n) =
    (is_among old.fails old.calls ≡ false) × (n ≡ taken old (length piece)) × (new ≡ record old { written = old.written ++ take n piece; calls = one_more old.calls })
Stores old new piece (Err e) = ((is_among old.fails old.calls ≡ false) → taken old (length piece) ≡ 0) × (new ≡ record old { calls = one_more old.calls; faults = one_more old.faults })
