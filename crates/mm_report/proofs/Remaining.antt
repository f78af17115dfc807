-- A text that is added piece by piece, of which the rest is known.
use Rattle.std.proofs.Common.{◌≡◌, ℕ, List, [], ◌++◌, refl, sym, ◌∙◌, append_assoc, append-nil, subst, Option, Ok, Err}
use Rattle.std.proofs.KnownBytes.{Appends-nil}
use Rattle.byte_streams.specs.Causes.{Fronts, IsOnItsWay}
use Rattle.byte_streams.proofs.Pieces.{adds_then, fronts_more}

-- of a text some is on its way, and this is left
pub record Remains (old new : Option (List ℕ)) (before now left all : List ℕ) : Type 0 where
  pub done : List ℕ
  pub way : IsOnItsWay old new now (before ++ done)
  pub whole : done ++ left ≡ all

-- at first all is left
pub remains_all : (a : Option (List ℕ)) (before all : List ℕ) → Remains a a before before all all
remains_all a before all = record { done = []; way = ([], sym (append-nil before), Appends-nil a); whole = refl }

-- one more piece is on its way
pub remains_added : (a b c : Option (List ℕ)) (w0 w1 w2 piece rest all : List ℕ) → Remains a b w0 w1 (piece ++ rest) all → IsOnItsWay b c w2 (w1 ++ piece) → Remains a c w0 w2 rest all
remains_added a b c w0 w1 w2 piece rest all r q = record {
  done = r.done ++ piece;
  way = adds_then {E = Unit {0}} a b c w0 w1 w2 r.done piece (Ok tt) r.way q;
  whole = append_assoc r.done piece rest ∙ r.whole;
}

-- a front of one more piece was written
pub remains_failed : (a b c : Option (List ℕ)) (w0 w1 piece rest all : List ℕ) → Remains a b w0 w1 (piece ++ rest) all → Fronts b c (w1 ++ piece) → Fronts a c (w0 ++ all)
remains_failed a b c w0 w1 piece rest all r q =
    subst (λ t. Fronts a c (w0 ++ t)) (append_assoc r.done piece rest ∙ r.whole)
    (fronts_more a c w0 (r.done ++ piece) rest (adds_then {E = Unit {0}} a b c w0 w1 [] r.done piece (Err tt) r.way q))

-- nothing is left
pub remains_none : (a b : Option (List ℕ)) (w0 w1 all : List ℕ) → Remains a b w0 w1 [] all → IsOnItsWay a b w1 (w0 ++ all)
remains_none a b w0 w1 all r = subst (λ t. IsOnItsWay a b w1 (w0 ++ t)) (sym (append-nil r.done) ∙ r.whole) r.way
