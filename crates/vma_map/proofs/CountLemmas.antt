-- How many pages areas have.
use Rattle.std.proofs.Common.{◌≡◌, ℕ, ◌+◌, ◌-◌, ◌<◌, ◌≤◌, List, [], ◌∷◌, ◌++◌, length, take, get_or, refl, zero, suc, Option, Some, None, sym, ap, ◌∙◌, arith}
use Rattle.std.proofs.lemmas.List.{take_more}
use Rattle.word_bits.specs.declared.area.Area.{Area}
use Rattle.word_bits.specs.PageMaps.{PageMap, mapped_from}
use Rattle.vma_map.specs.Runs.{page_map, AreRuns}
use Rattle.vma_map.specs.Laws.Area.{page_map-in, page_map-behind, page_map-before, AreRuns-head, AreRuns-tail}

-- how many pages the areas have together
abbrev pub covered : List Area → ℕ
covered [] = 0
covered (a ∷ areas) = (a.end - a.start) + covered areas

-- the pages of joined lists
covered-append : (xs ys : List Area) → covered (xs ++ ys) ≡ covered xs + covered ys
covered-append [] ys = omega arith
covered-append (x ∷ xs) ys = omega (arith, covered-append xs ys)

-- one more area
pub covered-more : (areas : List Area) (i : ℕ) (d : Area) → i < length areas → covered (take (i + 1) areas) ≡ covered (take i areas) + ((get_or areas i d).end - (get_or areas i d).start)
covered-more areas i d below =
    ap covered (take_more areas i d below) ∙ covered-append (take i areas) (get_or areas i d ∷ []) ∙ omega arith

-- runs have no more pages than there are from their first on
covered-from : (a : Area) (areas : List Area) → AreRuns (a ∷ areas) → a.start + covered (a ∷ areas) ≤ 1048576
covered-from a [] runs = let some = runs.some in let within = runs.within in omega arith
covered-from a (b ∷ areas) runs =
    let some = runs.0.some in
    let ascend = runs.1.ascend in
    let rest = covered-from b areas runs.2 in
    omega arith

-- runs have no more pages than there are
pub covered-le : (areas : List Area) → AreRuns areas → covered areas ≤ 1048576
covered-le [] runs = omega arith
covered-le (a ∷ areas) runs = omega (arith, covered-from a areas runs)

-- the next page is unmapped
mapped_from-unmapped : (m : PageMap) (page count : ℕ) → m page ≡ None → mapped_from m page (suc count) ≡ mapped_from m (page + 1) count
unfolding mapped_from
mapped_from-unmapped m page count e = rw e (omega arith)

-- or mapped
mapped_from-mapped : (m : PageMap) (page count prot : ℕ) → m page ≡ Some prot → mapped_from m page (suc count) ≡ 1 + mapped_from m (page + 1) count
unfolding mapped_from
mapped_from-mapped m page count prot e = rw e refl

-- of no pages
mapped_from-zero : (m : PageMap) (page : ℕ) → mapped_from m page 0 ≡ 0
unfolding mapped_from
mapped_from-zero m page = refl

-- of a page, as 0 or 1
mapped_from-step : (m : PageMap) (page : ℕ) → (one : ℕ) × ((count : ℕ) → mapped_from m page (suc count) ≡ one + mapped_from m (page + 1) count)
mapped_from-step m page = go (m page) refl
  where
    go : (o : Option ℕ) → m page ≡ o → (one : ℕ) × ((count : ℕ) → mapped_from m page (suc count) ≡ one + mapped_from m (page + 1) count)
    go None e = (0, λ count. mapped_from-unmapped m page count e ∙ omega arith)
    go (Some prot) e = (1, λ count. mapped_from-mapped m page count prot e)

-- among so many pages and then so many
mapped_from-add : (m : PageMap) (first page second : ℕ) → mapped_from m page (first + second) ≡ mapped_from m page first + mapped_from m (page + first) second
mapped_from-add m zero page second =
    let none : 0 + second ≡ second = omega arith in
    let here : page + 0 ≡ page = omega arith in
    rw (none, here, mapped_from-zero m page) (omega arith)
mapped_from-add m (suc first) page second =
    let step = mapped_from-step m page in
    let rest = mapped_from-add m first (page + 1) second in
    let more : suc first + second ≡ suc (first + second) = omega arith in
    let next : page + suc first ≡ page + 1 + first = omega arith in
    rw (more, next, step.1 (first + second), step.1 first, rest) (omega arith)

-- none among unmapped pages
mapped_from-none : (m : PageMap) (count page : ℕ) → ((q : ℕ) → page ≤ q → q < page + count → m q ≡ None) → mapped_from m page count ≡ 0
mapped_from-none m zero page none = mapped_from-zero m page
mapped_from-none m (suc count) page none =
    mapped_from-unmapped m page count (none page (omega arith) (omega arith)) ∙ mapped_from-none m count (page + 1) (λ q low high. none q (omega arith) (omega arith))

-- all among mapped ones
mapped_from-all : (m : PageMap) (prot count page : ℕ) → ((q : ℕ) → page ≤ q → q < page + count → m q ≡ Some prot) → mapped_from m page count ≡ count
mapped_from-all m prot zero page all = mapped_from-zero m page
mapped_from-all m prot (suc count) page all =
    let rest = mapped_from-all m prot count (page + 1) (λ q low high. all q (omega arith) (omega arith)) in
    mapped_from-mapped m page count prot (all page (omega arith) (omega arith)) ∙ omega arith

-- as many where the pages are the same
mapped_from-same : (m n : PageMap) (count page : ℕ) → ((q : ℕ) → page ≤ q → m q ≡ n q) → mapped_from m page count ≡ mapped_from n page count
mapped_from-same m n zero page same = mapped_from-zero m page ∙ sym (mapped_from-zero n page)
mapped_from-same m n (suc count) page same =
    go (n page) refl (mapped_from-same m n count (page + 1) (λ q low. same q (omega arith)))
  where
    here : m page ≡ n page
    here = same page (omega arith)

    go : (o : Option ℕ) → n page ≡ o → mapped_from m (page + 1) count ≡ mapped_from n (page + 1) count → mapped_from m page (suc count) ≡ mapped_from n page (suc count)
    go None e rest = mapped_from-unmapped m page count (here ∙ e) ∙ rest ∙ sym (mapped_from-unmapped n page count e)
    go (Some prot) e rest = mapped_from-mapped m page count prot (here ∙ e) ∙ ap (λ k. 1 + k) rest ∙ sym (mapped_from-mapped n page count prot e)

-- the pages of an area that is in front of others
covered-first : (a : Area) (areas : List Area) → AreRuns (a ∷ areas) → (page count : ℕ) → page ≤ a.start → page + count ≡ 1048576 → mapped_from (page_map (a ∷ areas)) page count ≡ (a.end - a.start) + mapped_from (page_map areas) a.end (1048576 - a.end)
covered-first a areas runs page count low all =
    let m = page_map (a ∷ areas) in
    let is = AreRuns-head a areas runs in
    let some = is.some in
    let within = is.within in
    let parts : count ≡ (a.start - page) + ((a.end - a.start) + (1048576 - a.end)) = omega arith in
    let at_start : page + (a.start - page) ≡ a.start = omega arith in
    let at_end : a.start + (a.end - a.start) ≡ a.end = omega arith in
    let none = mapped_from-none m (a.start - page) page (λ q above below. page_map-before a areas runs q (omega arith)) in
    let all' = mapped_from-all m a.prot (a.end - a.start) a.start (λ q above below. page_map-in a areas q above (omega arith)) in
    let rest = mapped_from-same m (page_map areas) (1048576 - a.end) a.end (λ q above. page_map-behind a areas q above) in
    ap (mapped_from m page) parts ∙ mapped_from-add m (a.start - page) page ((a.end - a.start) + (1048576 - a.end)) ∙ rw (none, at_start, mapped_from-add m (a.end - a.start) a.start (1048576 - a.end), all', at_end, rest) (omega arith)

-- what is behind the first run begins at its end or behind it
next : (a : Area) (areas : List Area) → AreRuns (a ∷ areas) → (b : Area) (rest : List Area) → areas ≡ b ∷ rest → a.end ≤ b.start
next a [] runs b rest e = absurd (cc)
next a (c ∷ areas) runs b rest e =
    let same : c ≡ b = cc in
    let start : c.start ≡ b.start = ap (λ (x : Area). x.start) same in
    let ascend = runs.1.ascend in
    omega arith

-- from a page on, the mapped pages are those of the runs that begin there or behind
covered-mapped : (areas : List Area) → AreRuns areas → (page count : ℕ) → ((a : Area) (rest : List Area) → areas ≡ a ∷ rest → page ≤ a.start) → page + count ≡ 1048576 → mapped_from (page_map areas) page count ≡ covered areas
covered-mapped [] runs page count low all = mapped_from-none (page_map []) count page (λ q above below. refl)
covered-mapped (a ∷ areas) runs page count low all =
    let within = (AreRuns-head a areas runs).within in
    let rest = covered-mapped areas (AreRuns-tail a areas runs) a.end (1048576 - a.end) (next a areas runs) (omega arith) in
    covered-first a areas runs page count (low a areas refl) all ∙ ap (λ k. (a.end - a.start) + k) rest

-- the mapped pages are those of the runs
pub mapped_from-page_map : (areas : List Area) → AreRuns areas → mapped_from (page_map areas) 0 1048576 ≡ covered areas
mapped_from-page_map areas runs = covered-mapped areas runs 0 1048576 (λ a rest e. omega arith) (omega arith)
