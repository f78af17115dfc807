-- The words of areas ascend as the areas do.
use Rattle.std.proofs.Common.{◌≡◌, ℕ, zero, suc, ◌+◌, ◌/◌, ◌^◌, ◌<◌, ◌≤◌, List, [], ◌∷◌, ◌++◌, length, map, replicate, take, drop, get_or, slice_index, ◌-◌, Some, None, refl, sym, ap, ◌∙◌, subst, add-one, arith}
use Rattle.std.specs.List.{AllByRecursion}
use Rattle.word_bits.specs.declared.area.Area.{Area}
use Rattle.word_bits.specs.AreaWord.{IsArea, area_word}
use Rattle.vma_map.specs.Runs.{AreRuns, IsSpace, page_map, words_of_areas}
use Rattle.vma_map.specs.Laws.Area.{AreRuns-head, AreRuns-tail, page_map-below}
use Rattle.vma_map.specs.Spaces.{IsRunAt}
use Rattle.vma_map.proofs.FindLemmas.{begun_at, page_map-between, page_map-found}
use Rattle.vma_map.proofs.RangeLemmas.{no_area, AreRuns-at}
use Rattle.vma_map.specs.Searches.{ArePartedAt}

-- all up to one that has begun have
begun-by : (areas : List Area) (i : ℕ) (d : Area) (page : ℕ) → AreRuns areas → i < length areas → (get_or areas i d).start ≤ page → AllByRecursion (λ a. a.start ≤ page) (take (suc i) areas)
begun-by [] i d page runs below begun = absurd (omega (arith, below))
begun-by (a ∷ areas) zero d page runs below begun = (begun, tt)
begun-by (a ∷ []) (suc i) d page runs below begun = absurd (omega (arith, below))
begun-by (a ∷ (b ∷ areas)) (suc i) d page runs below begun =
    let rest = begun-by (b ∷ areas) i d page runs.2 (omega (arith, below)) begun in
    let first = rest.0 in
    let ascend = runs.1.ascend in
    let some = (AreRuns-head a (b ∷ areas) runs).some in
    (omega arith, rest)

-- all behind one that begins behind the page do
behind-first : (a : Area) (areas : List Area) (page : ℕ) → AreRuns (a ∷ areas) → page < a.start → AllByRecursion (λ a. page < a.start) (a ∷ areas)
behind-first a [] page runs low = (low, tt)
behind-first a (b ∷ areas) page runs low =
    let ascend = runs.1.ascend in
    let some = (AreRuns-head a (b ∷ areas) runs).some in
    (low, behind-first b areas page runs.2 (omega arith))

behind-from : (areas : List Area) (i : ℕ) (d : Area) (page : ℕ) → AreRuns areas → i < length areas → page < (get_or areas i d).start → AllByRecursion (λ a. page < a.start) (drop i areas)
behind-from [] i d page runs below low = absurd (omega (arith, below))
behind-from (a ∷ areas) zero d page runs below low = behind-first a areas page runs low
behind-from (a ∷ areas) (suc i) d page runs below low = behind-from areas i d page (AreRuns-tail a areas runs) (omega (arith, below)) low

-- a page in front of all areas
pub none-behind : (areas : List Area) (page : ℕ) → AllByRecursion (λ a. page < a.start) areas → page_map areas page ≡ None
none-behind [] page all = refl
none-behind (a ∷ areas) page all = page_map-below a areas page all.0 ∙ none-behind areas page all.1

-- the word of an area
word-at : (areas : List Area) (n i : ℕ) (d : Area) → i < length areas → slice_index (map area_word areas ++ replicate n 0) i ≡ area_word (get_or areas i d)
word-at [] n i d below = absurd (omega (arith, below))
word-at (a ∷ areas) n zero d below = refl
word-at (a ∷ areas) n (suc i) d below = word-at areas n i d (omega (arith, below))

pub word-of : (areas : List Area) (known : List ℕ) (i : ℕ) (d : Area) → words_of_areas areas ≡ known → i < length areas → slice_index known (i + 1) ≡ area_word (get_or areas i d)
word-of areas known i d same below = ap (λ ws. slice_index ws (i + 1)) (sym same) ∙ (ap (slice_index (words_of_areas areas)) (add-one i) ∙ word-at areas _ i d below)

start-of : (a : Area) → IsArea a → area_word a / 2 ^ 24 ≡ a.start
start-of a is = let prot = is.prot in let end = is.within in omega arith

-- the start that a word has
start-at : (areas : List Area) (known : List ℕ) (i word : ℕ) → AreRuns areas → words_of_areas areas ≡ known → i < length areas → word ≡ slice_index known (i + 1) → word / 2 ^ 24 ≡ (get_or areas i no_area).start
start-at areas known i word runs same below is = ap (λ w. w / 2 ^ 24) (is ∙ word-of areas known i no_area same below) ∙ start-of (get_or areas i no_area) (AreRuns-at areas i no_area below runs)

pub parted-low : (areas : List Area) (known : List ℕ) (page i word low high : ℕ) → AreRuns areas → words_of_areas areas ≡ known → i < length areas → word ≡ slice_index known (i + 1) → word / 2 ^ 24 ≤ page → ArePartedAt areas page low high → ArePartedAt areas page (i + 1) high
parted-low areas known page i word low high runs same below is begun parted =
    let start = start-at areas known i word runs same below is in
    (subst (λ n. AllByRecursion (λ a. a.start ≤ page) (take n areas)) (sym (add-one i)) (begun-by areas i no_area page runs below (omega (arith, start, begun))), parted.1)

pub parted-high : (areas : List Area) (known : List ℕ) (page i word low high : ℕ) → AreRuns areas → words_of_areas areas ≡ known → i < length areas → word ≡ slice_index known (i + 1) → page < word / 2 ^ 24 → ArePartedAt areas page low high → ArePartedAt areas page low i
parted-high areas known page i word low high runs same below is behind parted =
    let start = start-at areas known i word runs same below is in
    (parted.0, behind-from areas i no_area page runs below (omega (arith, start, behind)))

module _ (areas : List Area) (known : List ℕ) (begun word page : ℕ) (is : IsSpace areas) (same : words_of_areas areas ≡ known) (some : begun ≡ 0 → ⊥) (within : begun ≤ slice_index known 0) (value : word ≡ slice_index known begun) where
  abbrev pub last : Area
  last = get_or areas (begun - 1) no_area

  -- the last area that has begun has the word
  below : begun - 1 < length areas
  below = let many : length areas ≡ slice_index known 0 = ap (λ ws. slice_index ws 0) same in omega (arith, some, within, many)

  whole : begun ≡ begun - 1 + 1
  whole = omega (arith, some)

  pub last-packs : IsArea last × (area_word last ≡ word)
  last-packs = (AreRuns-at areas (begun - 1) no_area below is.runs, sym (value ∙ ap (slice_index known) whole ∙ word-of areas known (begun - 1) no_area same below))

  module _ (a : Area) (only : (b : Area) → IsArea b × (area_word b ≡ word) → b ≡ a) (parted : ArePartedAt areas page begun begun) where
    pub run-found : page < a.end → IsRunAt areas (page_map areas) page (Some a)
    run-found high =
        let at = only last last-packs in
        let begin = subst (λ n. AllByRecursion (λ (b : Area). b.start ≤ page) (take n areas)) whole parted.0 in
        page_map-found areas (begun - 1) no_area a page is.runs below at (subst (λ (b : Area). b.start ≤ page) at (begun_at areas (begun - 1) no_area page below begin)) high

    pub run-none : a.end ≤ page → page_map areas page ≡ None
    run-none ends =
        let at = only last last-packs in
        page_map-between areas (begun - 1) no_area page is.runs below (subst (λ (b : Area). b.end ≤ page) (sym at) ends) (subst (λ n. AllByRecursion (λ (b : Area). page < b.start) (drop n areas)) whole parted.1)
