-- What areas in order say of pages.
use Rattle.std.proofs.Common.{◌≡◌, ℕ, ◌<◌, ◌≤◌, List, [], ◌∷◌, map, refl, Option, Some, None, IfSome, Bool, true, false, ◌&&◌, cond, leb, ltb, ◌⊎◌, inl, inr, sym, ◌∙◌, arith}
use Rattle.std.proofs.lemmas.Bool.Decides.{nat_tests}
use Rattle.std.proofs.lemmas.Bool.{cases_lt}
use Rattle.word_bits.specs.declared.area.Area.{Area}
use Rattle.word_bits.specs.AreaWord.{IsArea, area_word}
use Rattle.word_bits.specs.PageMaps.{PageMap}
use Rattle.vma_map.specs.Runs.{page_map, AreRuns}
use Rattle.vma_map.specs.Spaces.{changed}

-- a page of the first area
pub page_map-in : (a : Area) (areas : List Area) (page : ℕ) → a.start ≤ page → page < a.end → page_map (a ∷ areas) page ≡ Some a.prot
page_map-in a areas page low high = grind (arith, nat_tests)

-- a page below the first area
pub page_map-below : (a : Area) (areas : List Area) (page : ℕ) → page < a.start → page_map (a ∷ areas) page ≡ page_map areas page
page_map-below a areas page low = grind (arith, nat_tests)

-- a page behind the first area
pub page_map-behind : (a : Area) (areas : List Area) (page : ℕ) → a.end ≤ page → page_map (a ∷ areas) page ≡ page_map areas page
page_map-behind a areas page high = grind (arith, nat_tests)

-- the first run is an area
pub AreRuns-head : (a : Area) (areas : List Area) → AreRuns (a ∷ areas) → IsArea a
AreRuns-head a [] runs = runs
AreRuns-head a (b ∷ areas) runs = runs.0

-- the other runs are runs
pub AreRuns-tail : (a : Area) (areas : List Area) → AreRuns (a ∷ areas) → AreRuns areas
AreRuns-tail a [] runs = tt
AreRuns-tail a (b ∷ areas) runs = runs.2

-- no run behind the first has a page below its end
pub page_map-low : (a : Area) (areas : List Area) → AreRuns (a ∷ areas) → (page : ℕ) → page < a.end → page_map areas page ≡ None
page_map-low a [] runs page low = refl
page_map-low a (b ∷ areas) runs page low =
    let ascend = runs.1.ascend in
    let some = (AreRuns-head b areas runs.2).some in
    page_map-below b areas page (omega arith) ∙ page_map-low b areas runs.2 page (omega arith)

-- no run has a page below the first
pub page_map-before : (a : Area) (areas : List Area) → AreRuns (a ∷ areas) → (page : ℕ) → page < a.start → page_map (a ∷ areas) page ≡ None
page_map-before a areas runs page low =
    let some = (AreRuns-head a areas runs).some in
    page_map-below a areas page low ∙ page_map-low a areas runs page (omega arith)

-- no run has a page past the last one
pub page_map-past : (areas : List Area) → AreRuns areas → (page : ℕ) → 1048576 ≤ page → page_map areas page ≡ None
page_map-past [] runs page past = refl
page_map-past (a ∷ areas) runs page past =
    let within = (AreRuns-head a areas runs).within in
    page_map-behind a areas page (omega arith) ∙ page_map-past areas (AreRuns-tail a areas runs) page past

-- each mapped page has a protection of the three bits
pub page_map-prots : (areas : List Area) → AreRuns areas → (page : ℕ) → IfSome (page_map areas page) (λ prot. prot < 8)
page_map-prots [] runs page = tt
page_map-prots (a ∷ areas) runs page =
    go (leb a.start page && ltb page a.end) (page_map-prots areas (AreRuns-tail a areas runs) page)
  where
    go : (test : Bool) → IfSome (page_map areas page) (λ prot. prot < 8) → IfSome (cond test (Some a.prot) (page_map areas page)) (λ prot. prot < 8)
    go true rest = (AreRuns-head a areas runs).prot
    go false rest = rest

-- the page behind the first run has another protection
pub page_map-end : (a : Area) (areas : List Area) → AreRuns (a ∷ areas) → page_map areas a.end ≡ Some a.prot → ⊥
page_map-end a [] runs e = cc
page_map-end a (b ∷ areas) runs e = go (cases_lt a.end b.start)
  where
    go : (a.end < b.start) ⊎ (b.start ≤ a.end) → ⊥
    go (inl low) = let none = page_map-before b areas runs.2 a.end low in cc
    go (inr touch) =
        let ascend = runs.1.ascend in
        let some = (AreRuns-head b areas runs.2).some in
        let is = page_map-in b areas a.end touch (omega arith) in
        let at : a.end ≡ b.start = omega arith in
        let same : a.prot ≡ b.prot = cc in
        runs.1.differ at same

-- of two equal page maps, neither begins first
starts_no_later : (a : Area) (xs : List Area) (b : Area) (bs : List Area) → AreRuns (a ∷ xs) → AreRuns (b ∷ bs) → ((page : ℕ) → page_map (a ∷ xs) page ≡ page_map (b ∷ bs) page) → a.start < b.start → ⊥
starts_no_later a xs b bs ra rb same low =
    let some = (AreRuns-head a xs ra).some in
    let is = page_map-in a xs a.start (omega arith) some in
    let none = page_map-before b bs rb a.start low in
    let e = same a.start in
    cc

-- of two equal page maps, neither has the shorter first run
ends_no_sooner : (a : Area) (xs : List Area) (b : Area) (bs : List Area) → AreRuns (a ∷ xs) → AreRuns (b ∷ bs) → ((page : ℕ) → page_map (a ∷ xs) page ≡ page_map (b ∷ bs) page) → b.start ≤ a.end
    → a.prot ≡ b.prot → a.end < b.end → ⊥
ends_no_sooner a xs b bs ra rb same low prot short =
    let behind = page_map-behind a xs a.end (omega arith) in
    let is = page_map-in b bs a.end low short in
    let e = same a.end in
    page_map-end a xs ra cc

-- equal page maps are equal behind first runs that end together
same_rest : (a : Area) (xs : List Area) (b : Area) (bs : List Area) → AreRuns (a ∷ xs) → AreRuns (b ∷ bs) → ((page : ℕ) → page_map (a ∷ xs) page ≡ page_map (b ∷ bs) page) → a.end ≡ b.end → (page : ℕ)
    → (page < a.end) ⊎ (a.end ≤ page) → page_map xs page ≡ page_map bs page
same_rest a xs b bs ra rb same end page (inl low) = page_map-low a xs ra page low ∙ sym (page_map-low b bs rb page (omega arith))
same_rest a xs b bs ra rb same end page (inr high) =
    sym (page_map-behind a xs page high) ∙ same page ∙ page_map-behind b bs page (omega arith)

-- runs with equal page maps are equal
pub AreRuns-unique : (xs ys : List Area) → AreRuns xs → AreRuns ys → ((page : ℕ) → page_map xs page ≡ page_map ys page) → xs ≡ ys
AreRuns-unique [] [] rx ry same = refl
AreRuns-unique [] (b ∷ bs) rx ry same =
    let is = page_map-in b bs b.start (omega arith) (AreRuns-head b bs ry).some in
    let e = same b.start in
    cc
AreRuns-unique (a ∷ xs) [] rx ry same =
    let is = page_map-in a xs a.start (omega arith) (AreRuns-head a xs rx).some in
    let e = same a.start in
    cc
AreRuns-unique (a ∷ xs) (b ∷ bs) rx ry same =
    let some_a = (AreRuns-head a xs rx).some in
    let some_b = (AreRuns-head b bs ry).some in
    let start : a.start ≡ b.start = omega (arith, starts_no_later a xs b bs rx ry same, starts_no_later b bs a xs ry rx (λ page. sym (same page))) in
    let here_a = page_map-in a xs a.start (omega arith) some_a in
    let here_b = page_map-in b bs a.start (omega arith) (omega arith) in
    let e = same a.start in
    let prot : a.prot ≡ b.prot = cc in
    let end : a.end ≡ b.end = omega (arith, ends_no_sooner a xs b bs rx ry same (omega arith) prot, ends_no_sooner b bs a xs ry rx (λ page. sym (same page)) (omega arith) (sym prot)) in
    let rest : (page : ℕ) → page_map xs page ≡ page_map bs page = λ page. same_rest a xs b bs rx ry same end page (cases_lt page a.end) in
    let tails = AreRuns-unique xs bs (AreRuns-tail a xs rx) (AreRuns-tail b bs ry) rest in
    λ i. record { start = start i; end = end i; prot = prot i } ∷ tails i

-- a word is that of one area
area_word-injective : (a b : Area) → IsArea a → IsArea b → area_word a ≡ area_word b → a ≡ b
area_word-injective a b is_a is_b same =
    let prot_a = is_a.prot in
    let prot_b = is_b.prot in
    let within_a = is_a.within in
    let within_b = is_b.within in
    let prot : a.prot ≡ b.prot = omega arith in
    let end : a.end ≡ b.end = omega arith in
    let start : a.start ≡ b.start = omega arith in
    λ i. record { start = start i; end = end i; prot = prot i }

-- words are those of one list of runs
pub map-area_word-injective : (xs ys : List Area) → AreRuns xs → AreRuns ys → map area_word xs ≡ map area_word ys → xs ≡ ys
map-area_word-injective [] [] rx ry same = refl
map-area_word-injective [] (y ∷ ys) rx ry same = cc
map-area_word-injective (x ∷ xs) [] rx ry same = cc
map-area_word-injective (x ∷ xs) (y ∷ ys) rx ry same =
    let first : area_word x ≡ area_word y = cc in
    let others : map area_word xs ≡ map area_word ys = cc in
    let e = area_word-injective x y (AreRuns-head x xs rx) (AreRuns-head y ys ry) first in
    let es = map-area_word-injective xs ys (AreRuns-tail x xs rx) (AreRuns-tail y ys ry) others in
    λ i. e i ∷ es i

-- a page of a changed range
pub changed-in : (m : PageMap) (start end : ℕ) (o : Option ℕ) (page : ℕ) → start ≤ page → page < end → changed m start end o page ≡ o
changed-in m start end o page low high = grind (arith, nat_tests)

-- a page below it
pub changed-below : (m : PageMap) (start end : ℕ) (o : Option ℕ) (page : ℕ) → page < start → changed m start end o page ≡ m page
changed-below m start end o page low = grind (arith, nat_tests)

-- a page above it
pub changed-above : (m : PageMap) (start end : ℕ) (o : Option ℕ) (page : ℕ) → end ≤ page → changed m start end o page ≡ m page
changed-above m start end o page high = grind (arith, nat_tests)
