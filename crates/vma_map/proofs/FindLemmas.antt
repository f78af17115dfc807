-- The area of a page, in the words of areas.
use Rattle.std.proofs.Common.{◌≡◌, ℕ, ◌+◌, ◌<◌, ◌≤◌, zero, suc, add-one, List, [], ◌∷◌, ◌++◌, length, take, drop, get_or, Some, None, sym, ap, subst, ◌∙◌, arith}
use Rattle.std.specs.List.{AllByRecursion}
use Rattle.std.proofs.lemmas.List.{take_more, take-append-drop, get_or_default}
use Rattle.word_bits.specs.declared.area.Area.{Area}
use Rattle.vma_map.specs.Runs.{page_map, AreRuns}
use Rattle.vma_map.specs.Laws.PageRun.{outside}
use Rattle.vma_map.specs.Spaces.{IsRunAt}
use Rattle.vma_map.specs.Laws.Area.{AreRuns-head}
use Rattle.vma_map.proofs.CutLemmas.{last_holds, none_from, none_to}
use Rattle.vma_map.proofs.RangeLemmas.{at_index, page_map-append}
use Rattle.vma_map.proofs.QueryLemmas.{page_map-at}

-- areas that leave a page out, with one more that does
pub page_map-outside : (areas : List Area) (i : ℕ) (d : Area) (page : ℕ) → i < length areas → page_map (take i areas) page ≡ None → ((get_or areas i d).start ≤ page → (get_or areas i d).end ≤ page) → page_map (take (i + 1) areas) page ≡ None
page_map-outside areas i d page below none out =
    ap (λ xs. page_map xs page) (take_more areas i d below) ∙ page_map-append (take i areas) (get_or areas i d ∷ []) page ∙ rw none (outside (get_or areas i d) [] page out)

-- the area that has a page
pub page_map-found : (areas : List Area) (i : ℕ) (d a : Area) (page : ℕ) → AreRuns areas → i < length areas → get_or areas i d ≡ a → a.start ≤ page → page < a.end → IsRunAt areas (page_map areas) page (Some a)
page_map-found areas i d a page runs below is low high =
    let at = at_index areas i d below in
    ((i, below, get_or_default areas i a d below ∙ is), low, high, page_map-at areas (take i areas) a (drop (i + 1) areas) (at ∙ ap (λ x. take i areas ++ x ∷ drop (i + 1) areas) is) runs page low high)

-- the last of those that have begun
pub begun_at : (areas : List Area) (i : ℕ) (d : Area) (page : ℕ) → i < length areas → AllByRecursion (λ a. a.start ≤ page) (take (i + 1) areas) → (get_or areas i d).start ≤ page
begun_at areas i d page below all = last_holds (λ a. a.start ≤ page) (take (i + 1) areas) (take i areas) (get_or areas i d) (take_more areas i d below) all

-- where an area ends at a page or before it, all up to it do
ended_by : (areas : List Area) (i : ℕ) (d : Area) (page : ℕ) → AreRuns areas → i < length areas → (get_or areas i d).end ≤ page → AllByRecursion (λ a. a.end ≤ page) (take (suc i) areas)
ended_by [] i d page runs below ends = absurd (omega arith)
ended_by (a ∷ areas) zero d page runs below ends = (ends, tt)
ended_by (a ∷ []) (suc i) d page runs below ends = absurd (omega arith)
ended_by (a ∷ (b ∷ areas)) (suc i) d page runs below ends =
    let rest = ended_by (b ∷ areas) i d page runs.2 (omega arith) ends in
    let first = rest.0 in
    let ascend = runs.1.ascend in
    let some = (AreRuns-head b areas runs.2).some in
    (omega arith, rest)

-- a page behind one area and in front of the next
pub page_map-between : (areas : List Area) (i : ℕ) (d : Area) (page : ℕ) → AreRuns areas → i < length areas → (get_or areas i d).end ≤ page → AllByRecursion (λ a. page < a.start) (drop (i + 1) areas) → page_map areas page ≡ None
page_map-between areas i d page runs below ends starts =
    ap (λ xs. page_map xs page) (sym (take-append-drop (i + 1) areas)) ∙ page_map-append (take (i + 1) areas) (drop (i + 1) areas) page
    ∙ rw (none_from (take (i + 1) areas) page (subst (λ n. AllByRecursion (λ a. a.end ≤ page) (take n areas)) (sym (add-one i)) (ended_by areas i d page runs below ends)) page (omega arith)) (none_to (drop (i + 1) areas) page starts page (omega arith))
