-- A text that is added behind what waits, piece by piece.
use Rattle.std.proofs.Common.{◌≡◌, ℕ, ◌+◌, ◌≤◌, List, [], ◌∷◌, ◌++◌, length, get_or, take, drop, sym, ap, ◌∙◌, append_assoc, append-nil, Option, Some, Result, Ok, Err, subst, take-append-drop}
use Rattle.std.specs.Prelude.{flat_map, slice_get}
use Rattle.std.proofs.lemmas.Option.{slice_get_within, get_or_from_slice_get}
use Rattle.std.proofs.lemmas.List.{take_more, take_all}
use Rattle.std.proofs.lemmas.List.Concat.{flat_map-cons}
use Rattle.std.proofs.lemmas.Grind.{flat_map-append}
use Rattle.std.specs.Io.KnownBytes.{Appends}
use Rattle.std.proofs.KnownBytes.{Appends-nil, Appends-trans}
use Rattle.byte_streams.specs.Causes.{Fronts, IsOnItsWay, Flushes, Puts, Adds}

-- bytes were added to what waits alone
pub adds_waiting : (a : Option (List ℕ)) (before now text : List ℕ) → now ≡ before ++ text → IsOnItsWay a a now (before ++ text)
adds_waiting a before now text is = ([], is, Appends-nil a)

joined : (f w b t g w2 u : List ℕ) → f ++ w ≡ b ++ t → g ++ w2 ≡ w ++ u → (f ++ g) ++ w2 ≡ b ++ (t ++ u)
joined f w b t g w2 u p q = append_assoc f g w2 ∙ ap (λ l. f ++ l) q ∙ sym (append_assoc f w u) ∙ ap (λ l. l ++ u) p ∙ append_assoc b t u

-- one text behind the other
pub adds_then : {E : Type 0} (a b c : Option (List ℕ)) (w0 w1 w2 t u : List ℕ) (r : Result (Unit {0}) E) → IsOnItsWay a b w1 (w0 ++ t) → Adds b c w1 w2 u r → Adds a c w0 w2 (t ++ u) r
adds_then a b c w0 w1 w2 t u (Ok x) p q = (p.0 ++ q.0, joined p.0 w1 w0 t q.0 w2 u p.1 q.1, Appends-trans a b c p.0 q.0 p.2 q.2)
adds_then a b c w0 w1 w2 t u (Err e) p q = (p.0 ++ q.0, q.1, joined p.0 w1 w0 t q.0 q.1 u p.1 q.2, Appends-trans a b c p.0 q.0 p.2 q.3)

-- a front of a text is a front of a longer one
pub fronts_more : (a b : Option (List ℕ)) (w t u : List ℕ) → Fronts a b (w ++ t) → Fronts a b (w ++ (t ++ u))
fronts_more a b w0 t u p = (p.0, p.1 ++ u, sym (append_assoc p.0 p.1 u) ∙ ap (λ l. l ++ u) p.2 ∙ append_assoc w0 t u, p.3)

-- what is on its way is written once all that waits is flushed
pub sent : {E : Type 0} (a b c : Option (List ℕ)) (w w2 t : List ℕ) (r : Result (Unit {0}) E) → IsOnItsWay a b w t → Flushes b c w w2 r → Puts a c t r
sent a b c w w2 t (Ok x) p q = subst (Appends a c) p.1 (Appends-trans a b c p.0 w p.2 q.0)
sent a b c w w2 t (Err e) p q = (p.0 ++ q.0, q.1, append_assoc p.0 q.0 q.1 ∙ ap (λ l. p.0 ++ l) q.2 ∙ p.1, Appends-trans a b c p.0 q.0 p.2 q.3)

-- a line behind what waits once there is room
pub adds_line : (a b : Option (List ℕ)) (w0 w1 w2 text : List ℕ) → IsOnItsWay a b w1 w0 → w2 ≡ w1 ++ text → IsOnItsWay a b w2 (w0 ++ text)
adds_line a b w0 w1 w2 text p is = (p.0, ap (λ l. p.0 ++ l) is ∙ sym (append_assoc p.0 w1 text) ∙ ap (λ l. l ++ text) p.1, p.2)

-- where no room could be made, a front of what waited is one of the text behind it
pub fronts_line : (a b : Option (List ℕ)) (w text : List ℕ) → Fronts a b w → Fronts a b (w ++ text)
fronts_line a b w text p = (p.0, p.1 ++ text, sym (append_assoc p.0 p.1 text) ∙ ap (λ l. l ++ text) p.2, p.3)

-- ---- a text of pieces, one for each element of a list

-- one more piece is in front
pub flat_map_more : {X : Type 0} (f : X → List ℕ) (xs : List X) (i : ℕ) (x : X) → slice_get xs i ≡ Some x → flat_map f (take (i + 1) xs) ≡ flat_map f (take i xs) ++ f x
flat_map_more f xs i x is =
    let within = slice_get_within xs i x is in
    ap (flat_map f) (take_more xs i x within) ∙ flat_map-append f (take i xs) (get_or xs i x ∷ []) ∙ ap (λ y. flat_map f (take i xs) ++ flat_map f (y ∷ [])) (get_or_from_slice_get xs i x x is)
    ∙ ap (λ l. flat_map f (take i xs) ++ l) (flat_map-cons f x [] ∙ append-nil (f x))

-- the pieces so far, this one and the rest
pub flat_map_split : {X : Type 0} (f : X → List ℕ) (xs : List X) (i : ℕ) (x : X) → slice_get xs i ≡ Some x → (flat_map f (take i xs) ++ f x) ++ flat_map f (drop (i + 1) xs) ≡ flat_map f xs
flat_map_split f xs i x is =
    ap (λ l. l ++ flat_map f (drop (i + 1) xs)) (sym (flat_map_more f xs i x is)) ∙ sym (flat_map-append f (take (i + 1) xs) (drop (i + 1) xs)) ∙ ap (flat_map f) (take-append-drop (i + 1) xs)

pub piece_added : {X : Type 0} (f : X → List ℕ) (xs : List X) (i : ℕ) (x : X) (a b c : Option (List ℕ)) (w0 w1 w2 : List ℕ) → slice_get xs i ≡ Some x → IsOnItsWay a b w1 (w0 ++ flat_map f (take i xs))
    → IsOnItsWay b c w2 (w1 ++ f x) → IsOnItsWay a c w2 (w0 ++ flat_map f (take (i + 1) xs))
piece_added f xs i x a b c w0 w1 w2 is p q =
    subst (λ t. IsOnItsWay a c w2 (w0 ++ t)) (sym (flat_map_more f xs i x is)) (adds_then {E = Unit {0}} a b c w0 w1 w2 (flat_map f (take i xs)) (f x) (Ok tt) p q)

pub piece_failed : {X : Type 0} (f : X → List ℕ) (xs : List X) (i : ℕ) (x : X) (a b c : Option (List ℕ)) (w0 w1 : List ℕ) → slice_get xs i ≡ Some x → IsOnItsWay a b w1 (w0 ++ flat_map f (take i xs))
    → Fronts b c (w1 ++ f x) → Fronts a c (w0 ++ flat_map f xs)
piece_failed f xs i x a b c w0 w1 is p q =
    subst (λ t. Fronts a c (w0 ++ t)) (flat_map_split f xs i x is)
    (fronts_more a c w0 (flat_map f (take i xs) ++ f x) (flat_map f (drop (i + 1) xs)) (adds_then {E = Unit {0}} a b c w0 w1 [] (flat_map f (take i xs)) (f x) (Err tt) p q))

pub pieces_done : {X : Type 0} (f : X → List ℕ) (xs : List X) (i : ℕ) (a b : Option (List ℕ)) (w0 w1 : List ℕ) → length xs ≤ i → IsOnItsWay a b w1 (w0 ++ flat_map f (take i xs)) → IsOnItsWay a b w1 (w0 ++ flat_map f xs)
pieces_done f xs i a b w0 w1 past p = subst (λ l. IsOnItsWay a b w1 (w0 ++ flat_map f l)) (take_all i xs past) p

-- before the first piece
pub pieces_begin : {X : Type 0} (f : X → List ℕ) (xs : List X) (a : Option (List ℕ)) (w : List ℕ) → IsOnItsWay a a w (w ++ flat_map f (take 0 xs))
pieces_begin f xs a w = ([], sym (append-nil w), Appends-nil a)
