-- Lists of areas that grow at their end.
use Rattle.std.proofs.Common.{◌≡◌, ℕ, ◌+◌, ◌-◌, ◌<◌, ◌≤◌, List, [], ◌∷◌, ◌++◌, length, take, drop, get_or, refl, Option, Some, None, Bool, true, false, ◌&&◌, cond, leb, ltb, ◌⊎◌, inl, inr, sym, ap, ◌∙◌, arith}
use Rattle.std.specs.Option.{option_or}
use Rattle.std.proofs.lemmas.List.{append_assoc, take-append-drop, drop_more}
use Rattle.std.proofs.lemmas.Bool.Decides.{nat_tests}
use Rattle.std.proofs.lemmas.Bool.{cases_lt}
use Rattle.word_bits.specs.declared.area.Area.{Area}
use Rattle.word_bits.specs.AreaWord.{IsArea}
use Rattle.vma_map.specs.Runs.{page_map, Follows, AreRuns}
use Rattle.vma_map.specs.Spaces.{changed}
use Rattle.vma_map.specs.Laws.Area.{page_map-behind, AreRuns-head, AreRuns-tail}

-- what stands in the place of no area
abbrev pub no_area : Area
no_area = record { start = 0; end = 0; prot = 0 }

-- a page of joined lists is that of the first list that has it
pub page_map-append : (xs ys : List Area) (page : ℕ) → page_map (xs ++ ys) page ≡ option_or (page_map xs page) (page_map ys page)
page_map-append [] ys page = refl
page_map-append (a ∷ xs) ys page = go (leb a.start page && ltb page a.end) (page_map-append xs ys page)
  where
    go : (test : Bool) → page_map (xs ++ ys) page ≡ option_or (page_map xs page) (page_map ys page) → cond test (Some a.prot) (page_map (xs ++ ys) page) ≡ option_or (cond test (Some a.prot) (page_map xs page)) (page_map ys page)
    go true rest = refl
    go false rest = rest

-- an area behind the others changes its pages
pub page_map-push : (xs : List Area) (a : Area) → ((page : ℕ) → a.start ≤ page → page_map xs page ≡ None) → (page : ℕ) → page_map (xs ++ a ∷ []) page ≡ changed (page_map xs) a.start a.end (Some a.prot) page
page_map-push xs a behind page =
    page_map-append xs (a ∷ []) page ∙ go (cases_lt page a.start)
  where
    low : (o : Option ℕ) → page < a.start → option_or o (page_map (a ∷ []) page) ≡ cond (leb a.start page && ltb page a.end) (Some a.prot) o
    low None below = refl
    low (Some prot) below = grind (arith, nat_tests)

    go : (page < a.start) ⊎ (a.start ≤ page) → option_or (page_map xs page) (page_map (a ∷ []) page) ≡ changed (page_map xs) a.start a.end (Some a.prot) page
    go (inl below) = low (page_map xs page) below
    go (inr above) = rw (behind page above) refl

-- the runs from an area on are runs
pub AreRuns-from : (xs : List Area) (a : Area) (ys : List Area) → AreRuns (xs ++ a ∷ ys) → AreRuns (a ∷ ys)
AreRuns-from [] a ys runs = runs
AreRuns-from (x ∷ xs) a ys runs = AreRuns-from xs a ys (AreRuns-tail x (xs ++ a ∷ ys) runs)

-- another end of runs, from an area of the same start and protection on
pub AreRuns-end : (xs : List Area) (a b : Area) (ys : List Area) → AreRuns (xs ++ a ∷ []) → b.start ≡ a.start → b.prot ≡ a.prot → AreRuns (b ∷ ys) → AreRuns (xs ++ b ∷ ys)
AreRuns-end [] a b ys runs start prot end = end
AreRuns-end (x ∷ []) a b ys runs start prot end =
    (runs.0, record { ascend = let h = runs.1.ascend in omega arith; differ = λ touch same. let touch' : x.end ≡ a.start = cc in let same' : x.prot ≡ a.prot = cc in runs.1.differ touch' same' }, end)
AreRuns-end (x ∷ (y ∷ xs)) a b ys runs start prot end =
    (runs.0, runs.1, AreRuns-end (y ∷ xs) a b ys runs.2 start prot end)

-- runs in front of an area end at its start or before it
pub ends_before : (x : Area) (xs : List Area) (a : Area) (ys : List Area) → AreRuns (x ∷ (xs ++ a ∷ ys)) → x.end ≤ a.start
ends_before x [] a ys runs = runs.1.ascend
ends_before x (y ∷ xs) a ys runs =
    let ascend = runs.1.ascend in
    let some = (AreRuns-head y (xs ++ a ∷ ys) runs.2).some in
    let rest = ends_before y xs a ys runs.2 in
    omega arith

-- runs in front of an area have no page of it or behind it
pub page_map-front : (xs : List Area) (a : Area) (ys : List Area) → AreRuns (xs ++ a ∷ ys) → (page : ℕ) → a.start ≤ page → page_map xs page ≡ None
page_map-front [] a ys runs page above = refl
page_map-front (x ∷ xs) a ys runs page above =
    let before = ends_before x xs a ys runs in
    page_map-behind x xs page (omega arith) ∙ page_map-front xs a ys (AreRuns-tail x (xs ++ a ∷ ys) runs) page above

-- the pages of runs with a last one
page_map-last : (xs : List Area) (a b : Area) (ys : List Area) → AreRuns (xs ++ a ∷ ys) → b.start ≡ a.start → (page : ℕ) → page_map (xs ++ b ∷ []) page ≡ changed (page_map xs) b.start b.end (Some b.prot) page
page_map-last xs a b ys runs start = page_map-push xs b (λ page above. page_map-front xs a ys runs page (omega arith))

-- the last area ends where no page is mapped from there on
last_end : (xs : List Area) (a : Area) (start : ℕ) → AreRuns (xs ++ a ∷ []) → ((page : ℕ) → start ≤ page → page_map (xs ++ a ∷ []) page ≡ None) → a.end ≤ start
last_end xs a start runs behind = go (cases_lt start a.end)
  where
    go : (start < a.end) ⊎ (a.end ≤ start) → a.end ≤ start
    go (inl inside) =
        let some = (AreRuns-head a [] (AreRuns-from xs a [] runs)).some in
        let none = behind (a.end - 1) (omega arith) in
        let pages = page_map-last xs a a [] runs refl (a.end - 1) in
        absurd (grind (arith, nat_tests))
    go (inr done) = done

-- a piece that touches the last area and has its protection, joined with it
pub joined-runs : (old xs : List Area) (last piece : Area) → old ≡ xs ++ last ∷ [] → AreRuns old → last.end ≡ piece.start → last.prot ≡ piece.prot → piece.start < piece.end → piece.end ≤ 1048576 → AreRuns (xs ++ record { start = last.start; end = piece.end; prot = piece.prot } ∷ [])
joined-runs old xs last piece is runs touch same some within =
    let runs' = rw is at runs in
    let first = AreRuns-head last [] (AreRuns-from xs last [] runs') in
    let some' = first.some in
    let prot' = first.prot in
    AreRuns-end xs last (record { start = last.start; end = piece.end; prot = piece.prot }) [] runs' refl (sym same) (record { prot = omega arith; some = omega arith; within = within })

-- it has the pages of the piece
pub joined-pages : (old xs : List Area) (last piece : Area) → old ≡ xs ++ last ∷ [] → AreRuns old → last.end ≡ piece.start → last.prot ≡ piece.prot → piece.start < piece.end → (page : ℕ) → page_map (xs ++ record { start = last.start; end = piece.end; prot = piece.prot } ∷ []) page ≡ changed (page_map old) piece.start piece.end (Some piece.prot) page
joined-pages old xs last piece is runs touch same some page =
    let runs' = rw is at runs in
    let some' = (AreRuns-head last [] (AreRuns-from xs last [] runs')).some in
    let whole = page_map-last xs last (record { start = last.start; end = piece.end; prot = piece.prot }) [] runs' refl page in
    let before = page_map-last xs last last [] runs' refl page in
    let old' = ap (λ areas. page_map areas page) is in
    grind (arith, nat_tests)

-- an area that follows the last one
pub AreRuns-after : (old xs : List Area) (last next : Area) → old ≡ xs ++ last ∷ [] → AreRuns old → IsArea next → Follows last next → AreRuns (old ++ next ∷ [])
AreRuns-after old xs last next is runs area follows =
    let runs' = rw is at runs in
    rw (is, append_assoc) (AreRuns-end xs last last (next ∷ []) runs' refl refl (AreRuns-head last [] (AreRuns-from xs last [] runs'), follows, area))

-- a piece that isn't joined
pub pushed-runs : (old xs : List Area) (last piece : Area) → old ≡ xs ++ last ∷ [] → AreRuns old → IsArea piece → ((page : ℕ) → piece.start ≤ page → page_map old page ≡ None) → (last.end ≡ piece.start → last.prot ≡ piece.prot → ⊥) → AreRuns (old ++ piece ∷ [])
pushed-runs old xs last piece is runs area behind differ =
    let runs' = rw is at runs in
    let behind' = λ (page : ℕ) (above : piece.start ≤ page). rw is at (behind page above) in
    AreRuns-after old xs last piece is runs area (record { ascend = last_end xs last piece.start runs' behind'; differ = differ })

-- a list at one of its elements
pub at_index : {X : Type 0} (xs : List X) (i : ℕ) (d : X) → i < length xs → xs ≡ take i xs ++ get_or xs i d ∷ drop (i + 1) xs
at_index xs i d below = sym (take-append-drop i xs) ∙ ap (λ rest. take i xs ++ rest) (drop_more xs i d below)

-- the runs at one of them
pub runs_at : (areas : List Area) (i : ℕ) (d : Area) → i < length areas → AreRuns areas → AreRuns (take i areas ++ get_or areas i d ∷ drop (i + 1) areas)
runs_at areas i d below are = rw (at_index areas i d below) at are

-- each of the areas is one
pub AreRuns-at : (areas : List Area) (i : ℕ) (d : Area) → i < length areas → AreRuns areas → IsArea (get_or areas i d)
AreRuns-at areas i d below are =
    AreRuns-head _ _ (AreRuns-from (take i areas) (get_or areas i d) (drop (i + 1) areas) (runs_at areas i d below are))
