-- A text that is on its way to a sink: a front of it was written, and the rest waits.
use Rattle.std.proofs.Common.{ℕ, List, ◌++◌, length, take, ap, ◌∙◌, append_assoc, append-nil, take-append-drop, arith, Option, Some, None}
use Rattle.std.specs.List.{between}
use Rattle.std.proofs.lemmas.Slice.{between_to_end}
use Rattle.std.specs.Io.KnownBytes.{Appends, Keeps}
use Rattle.std.proofs.KnownBytes.{Appends-trans}
use Rattle.byte_streams.specs.Causes.{IsOnItsWay}

-- writing a front of what waits keeps the text on its way
pub way_sent : (old mid new : Option (List ℕ)) (waiting rest text : List ℕ) → IsOnItsWay old mid waiting text → IsOnItsWay mid new rest waiting → IsOnItsWay old new rest text
way_sent old mid new waiting rest text way sent = (
  way.0 ++ sent.0,
  append_assoc way.0 sent.0 rest ∙ ap (λ (t : List ℕ). way.0 ++ t) sent.1 ∙ way.1,
  Appends-trans old mid new way.0 sent.0 way.2 sent.2,
)

-- a write that takes bytes of a piece sends them
pub taken_sent : (old new : Option (List ℕ)) (piece : List ℕ) (n : ℕ) → Appends old new (take n piece) → IsOnItsWay old new (between n (length piece) piece) piece
taken_sent old new piece n took = (take n piece, ap (λ (t : List ℕ). take n piece ++ t) (between_to_end piece n (length piece) (omega arith)) ∙ take-append-drop n piece, took)

-- a write that took nothing leaves what it finds
pub kept_by_nothing : (old new : Option (List ℕ)) (piece : List ℕ) → Appends old new (take 0 piece) → Keeps old new
kept_by_nothing None new piece took = tt
kept_by_nothing (Some xs) None piece took = took
kept_by_nothing (Some xs) (Some ys) piece took = took ∙ append-nil xs
