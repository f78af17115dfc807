-- Where areas in order are cut at a page.
use Rattle.std.proofs.Common.{◌≡◌, ℕ, ◌+◌, ◌<◌, ◌≤◌, List, [], ◌∷◌, ◌++◌, length, take, drop, get_or, refl, zero, suc, Some, None, sym, ap, true, false, leb, ◌∙◌, add-one, arith}
use Rattle.std.proofs.lemmas.Bool.{leb-true, leb-false}
use Rattle.std.specs.List.{AllWithin, AllByRecursion, slice_get}
use Rattle.std.specs.Option.{option_or}
use Rattle.std.proofs.lemmas.List.{take-append-drop}
use Rattle.std.specs.List.Sorted.{IsNonDecreasingBy, IsPartitionPoint}
use Rattle.std.proofs.lemmas.List.Sorted.{IsNonDecreasingBy-from_all_adjacent}
use Rattle.word_bits.specs.declared.area.Area.{Area}
use Rattle.vma_map.specs.Runs.{page_map, AreRuns}
use Rattle.vma_map.specs.Laws.Area.{page_map-below, page_map-behind, AreRuns-tail}
use Rattle.vma_map.proofs.RangeLemmas.{AreRuns-at, page_map-append}

-- what holds of each of the first ones, as a recursion
pub all_front : {X : Type 0} (P : X → Type 0) (xs : List X) (n : ℕ) → AllWithin P xs 0 n → n ≤ length xs → AllByRecursion P (take n xs)
all_front P xs zero all within = tt
all_front P [] (suc n) all within = absurd (omega arith)
all_front P (x ∷ xs) (suc n) all within =
    (all 0 x (omega arith) (omega arith), all_front P xs n (λ k d low high. all (suc k) d (omega arith) (omega arith)) (omega arith))

-- what holds of each of the others
pub all_rest : {X : Type 0} (P : X → Type 0) (xs : List X) (n : ℕ) → AllWithin P xs n (length xs) → AllByRecursion P (drop n xs)
all_rest P [] zero all = tt
all_rest P [] (suc n) all = tt
all_rest P (x ∷ xs) zero all =
    (all 0 x (omega arith) (omega arith), all_rest P xs zero (λ k d low high. all (suc k) d (omega arith) (omega arith)))
all_rest P (x ∷ xs) (suc n) all = all_rest P xs n (λ k d low high. all (suc k) d (omega arith) (omega arith))

-- each run ends at the start of the next one or before it
adjacent : (areas : List Area) → AreRuns areas → (k : ℕ) (d : Area) → suc k < length areas → (get_or areas k d).end ≤ (get_or areas (suc k) d).start
adjacent [] runs k d below = absurd (omega arith)
adjacent (a ∷ []) runs k d below = absurd (omega arith)
adjacent (a ∷ (b ∷ areas)) runs zero d below = runs.1.ascend
adjacent (a ∷ (b ∷ areas)) runs (suc k) d below = adjacent (b ∷ areas) runs.2 k d (omega arith)

-- the ends of runs ascend
pub ends_ascend : (areas : List Area) → AreRuns areas → IsNonDecreasingBy (λ (a : Area). a.end) areas
ends_ascend areas runs =
    IsNonDecreasingBy-from_all_adjacent (λ (a : Area). a.end) areas (λ k d below. step k d below)
  where
    step : (k : ℕ) (d : Area) → k + 1 < length areas → (get_or areas k d).end ≤ (get_or areas (k + 1) d).end
    step k d below =
        let next = adjacent areas runs k d (omega arith) in
        let some = (AreRuns-at areas (suc k) d (omega arith) runs).some in
        rw add-one (omega arith)

-- so do their starts
pub starts_in_order : (areas : List Area) → AreRuns areas → (k : ℕ) (d : Area) → k + 1 < length areas → (get_or areas k d).start ≤ (get_or areas (k + 1) d).start
starts_in_order areas runs k d below =
    let next = adjacent areas runs k d (omega arith) in
    let some = (AreRuns-at areas k d (omega arith) runs).some in
    rw add-one (omega arith)

pub starts_ascend : (areas : List Area) → AreRuns areas → IsNonDecreasingBy (λ (a : Area). a.start) areas
starts_ascend areas runs =
    IsNonDecreasingBy-from_all_adjacent (λ (a : Area). a.start) areas (λ k d below. starts_in_order areas runs k d below)

-- the runs behind others are runs
pub AreRuns-rest : (xs ys : List Area) → AreRuns (xs ++ ys) → AreRuns ys
AreRuns-rest [] ys runs = runs
AreRuns-rest (x ∷ xs) ys runs = AreRuns-rest xs ys (AreRuns-tail x (xs ++ ys) runs)

-- areas that end before a page have none from there on
pub none_from : (areas : List Area) (page : ℕ) → AllByRecursion (λ a. a.end ≤ page) areas → (q : ℕ) → page ≤ q → page_map areas q ≡ None
none_from [] page ends q above = refl
none_from (a ∷ areas) page ends q above =
    let first = ends.0 in
    page_map-behind a areas q (omega arith) ∙ none_from areas page ends.1 q above

-- areas that begin behind a page have none up to it
pub none_to : (areas : List Area) (page : ℕ) → AllByRecursion (λ a. page < a.start) areas → (q : ℕ) → q ≤ page → page_map areas q ≡ None
none_to [] page starts q below = refl
none_to (a ∷ areas) page starts q below =
    let first = starts.0 in
    page_map-below a areas q (omega arith) ∙ none_to areas page starts.1 q below

-- areas that end before a page end there at most
pub ends_by : (areas : List Area) (page : ℕ) → AllByRecursion (λ a. a.end < page) areas → AllByRecursion (λ a. a.end ≤ page) areas
ends_by [] page ends = tt
ends_by (a ∷ areas) page ends = let first = ends.0 in (omega arith, ends_by areas page ends.1)

-- where it passes the number
pub cut_above : (n : Area → ℕ) (areas : List Area) (page i : ℕ) → IsPartitionPoint (λ a. leb (n a) page ≡ true) (λ a. leb (n a) page ≡ false) areas i → i ≤ length areas → AllByRecursion (λ a. n a ≤ page) (take i areas) × AllByRecursion (λ a. page < n a) (drop i areas)
cut_above n areas page i point within = (
  all_front (λ a. n a ≤ page) areas i (λ k d low high. leb-true (n (get_or areas k d)) page (point.0 k d low high)) within,
  all_rest (λ a. page < n a) areas i (λ k d low high. leb-false (n (get_or areas k d)) page (point.1 k d low high)),
)

-- what holds of each area holds of the first ones
pub all_take : (P : Area → Type 0) (areas : List Area) (n : ℕ) → AllByRecursion P areas → AllByRecursion P (take n areas)
all_take P areas zero all = tt
all_take P [] (suc n) all = tt
all_take P (a ∷ areas) (suc n) all = (all.0, all_take P areas n all.1)

-- the first area
pub first_of : (areas : List Area) (a : Area) → slice_get areas 0 ≡ Some a → areas ≡ a ∷ drop 1 areas
first_of [] a is = absurd cc
first_of (b ∷ areas) a is = let same : b ≡ a = cc in ap (λ x. x ∷ areas) same

-- the other areas have the pages from where the first ones end
pub page_map-others : (areas : List Area) (n page : ℕ) → AllByRecursion (λ a. a.end ≤ page) (take n areas) → (q : ℕ) → page ≤ q → page_map (drop n areas) q ≡ page_map areas q
page_map-others areas n page ends q above =
    sym (ap (λ xs. page_map xs q) (sym (take-append-drop n areas)) ∙ page_map-append (take n areas) (drop n areas) q ∙ ap (λ o. option_or o (page_map (drop n areas) q)) (none_from (take n areas) page ends q above))

-- what holds of each area holds of the last one
pub last_holds : (P : Area → Type 0) (areas front : List Area) (a : Area) → areas ≡ front ++ a ∷ [] → AllByRecursion P areas → P a
last_holds P areas front a is all = go front (rw is at all)
  where
    go : (front : List Area) → AllByRecursion P (front ++ a ∷ []) → P a
    go [] all' = all'.0
    go (b ∷ front) all' = go front all'.1
