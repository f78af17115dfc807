-- Ranges of pages, as areas in order have them.
use Rattle.std.proofs.Common.{◌≡◌, ℕ, ◌+◌, ◌-◌, max, ◌<◌, ◌≤◌, List, [], ◌∷◌, ◌++◌, take, refl, zero, suc, Option, Some, None, Bool, true, false, eqb, leb, ◌⊎◌, inl, inr, sym, ap, ◌∙◌, arith}
use Rattle.std.specs.Prelude.{is_some, is_none}
use Rattle.std.specs.Bool.{then_some}
use Rattle.std.proofs.lemmas.Bool.{cases_lt, cases_eq, cases_Bool, and_parts, and_from, false≢true, false_from_ne_true, cond-true, cond-false, ne_eqb, leb-false, leb-true}
use Rattle.word_bits.specs.declared.area.Area.{Area}
use Rattle.word_bits.specs.PageMaps.{PageMap}
use Rattle.vma_map.specs.Runs.{page_map, AreRuns}
use Rattle.vma_map.specs.Spaces.{each_page, is_free, is_mapped, first_free, lowest_free, mapped, mapped_any, mapped_at}
use Rattle.vma_map.specs.Laws.Area.{page_map-in, page_map-below, page_map-behind, page_map-before, AreRuns-head, AreRuns-tail}
use Rattle.vma_map.proofs.RangeLemmas.{page_map-append, page_map-front, AreRuns-from}
use Rattle.vma_map.proofs.WordLemmas.{AreRuns-init}
use Rattle.std.specs.List.{AllByRecursion}
use Rattle.vma_map.proofs.CutLemmas.{none_from}

-- a range passes a test if each of its pages does
each_page-from : (test : Option ℕ → Bool) (m : PageMap) (page count : ℕ) → ((q : ℕ) → page ≤ q → q < page + count → test (m q) ≡ true) → each_page test m page count ≡ true
unfolding each_page
each_page-from test m page zero all = refl
each_page-from test m page (suc count) all =
    and_from (test (m page)) (each_page test m (page + 1) count) (all page (omega arith) (omega arith)) (each_page-from test m (page + 1) count (λ q low high. all q (omega arith) (omega arith)))

-- and only then
each_page-at : (test : Option ℕ → Bool) (m : PageMap) (page count : ℕ) → each_page test m page count ≡ true → (q : ℕ) → page ≤ q → q < page + count → test (m q) ≡ true
unfolding each_page
each_page-at test m page zero e q low high = absurd (omega arith)
each_page-at test m page (suc count) e q low high =
    let parts = and_parts (test (m page)) (each_page test m (page + 1) count) e in
    go (cases_eq q page) (each_page-at test m (page + 1) count parts.1 q) parts.0
  where
    go : (q ≡ page) ⊎ (q ≡ page → ⊥) → (page + 1 ≤ q → q < page + 1 + count → test (m q) ≡ true) → test (m page) ≡ true → test (m q) ≡ true
    go (inl here) rest first = ap (λ p. test (m p)) here ∙ first
    go (inr there) rest first = rest (omega arith) (omega arith)

-- a page that fails the test is in no range that passes it
each_page-not : (test : Option ℕ → Bool) (m : PageMap) (page count q : ℕ) → page ≤ q → q < page + count → test (m q) ≡ false → each_page test m page count ≡ false
each_page-not test m page count q low high fails =
    false_from_ne_true (each_page test m page count) (λ e. false≢true (sym fails ∙ each_page-at test m page count e q low high))

-- the first free start is free, and none below it is
first_free-some : (m : PageMap) (len page count start : ℕ) → page ≤ start → start < page + count → ((q : ℕ) → page ≤ q → q < start → is_free m q len ≡ false) → is_free m start len ≡ true → first_free m len page count ≡ Some start
unfolding first_free
first_free-some m len page zero start low high none free = absurd (omega arith)
first_free-some m len page (suc count) start low high none free =
    go (cases_eq page start) (λ low' high'. first_free-some m len (page + 1) count start low' high' (λ q low'' high''. none q (omega arith) high'') free)
  where
    go : (page ≡ start) ⊎ (page ≡ start → ⊥) → (page + 1 ≤ start → start < page + 1 + count → first_free m len (page + 1) count ≡ Some start) → first_free m len page (suc count) ≡ Some start
    go (inl here) rest =
        cond-true (is_free m page len) (Some page) (first_free m len (page + 1) count) (ap (λ p. is_free m p len) here ∙ free) ∙ ap (λ p. Some p) here
    go (inr there) rest =
        cond-false (is_free m page len) (Some page) (first_free m len (page + 1) count) (none page (omega arith) (omega arith)) ∙ rest (omega arith) (omega arith)

-- there is none where no start is free
first_free-none : (m : PageMap) (len page count : ℕ) → ((q : ℕ) → page ≤ q → q < page + count → is_free m q len ≡ false) → first_free m len page count ≡ None
unfolding first_free
first_free-none m len page zero none = refl
first_free-none m len page (suc count) none =
    cond-false (is_free m page len) (Some page) (first_free m len (page + 1) count) (none page (omega arith) (omega arith)) ∙ first_free-none m len (page + 1) count (λ q low high. none q (omega arith) (omega arith))

-- ranges of pages that are the same pass the same tests
pub each_page-same : (test : Option ℕ → Bool) (m n : PageMap) (page count : ℕ) → ((q : ℕ) → page ≤ q → m q ≡ n q) → each_page test m page count ≡ each_page test n page count
unfolding each_page
each_page-same test m n page zero same = refl
each_page-same test m n page (suc count) same =
    let first = same page (omega arith) in
    let rest = each_page-same test m n (page + 1) count (λ q low. same q (omega arith)) in
    rw (first, rest) refl

-- a range is free exactly if it ends before the first area that ends behind its start
pub is_free-first : (a : Area) (areas : List Area) (start len : ℕ) → AreRuns (a ∷ areas) → start < a.end → 0 < len → leb (start + len) a.start ≡ is_free (page_map (a ∷ areas)) start len
is_free-first a areas start len runs behind some = go (cases_Bool (leb (start + len) a.start))
  where
    go : (leb (start + len) a.start ≡ true) ⊎ (leb (start + len) a.start ≡ false) → leb (start + len) a.start ≡ is_free (page_map (a ∷ areas)) start len
    go (inl before) =
        let ends = leb-true (start + len) a.start before in
        before ∙ sym (each_page-from is_none (page_map (a ∷ areas)) start len (λ q low high. ap is_none (page_map-before a areas runs q (omega arith))))
    go (inr meets) =
        let under = leb-false (start + len) a.start meets in
        let some' = (AreRuns-head a areas runs).some in
        let here = page_map-in a areas (max a.start start) (omega arith) (omega arith) in
        meets ∙ sym (each_page-not is_none (page_map (a ∷ areas)) start len (max a.start start) (omega arith) (omega arith) (ap is_none here))

-- no areas leave a range free
pub is_free-none : (start len : ℕ) → is_free (page_map []) start len ≡ true
is_free-none start len = each_page-from is_none (page_map []) start len (λ q low high. refl)

-- a page of one of the areas
pub page_map-at : (areas front : List Area) (a : Area) (rest : List Area) → areas ≡ front ++ a ∷ rest → AreRuns areas → (q : ℕ) → a.start ≤ q → q < a.end → page_map areas q ≡ Some a.prot
page_map-at areas front a rest is runs q low high =
    ap (λ xs. page_map xs q) is ∙ page_map-append front (a ∷ rest) q ∙ rw (page_map-front front a rest (rw is at runs) q low) (page_map-in a rest q low high)

-- each page from the start of a range on is mapped up to the next one, which the areas so far leave out
pub record IsMappedTo (areas front : List Area) (start next : ℕ) : Type 0 where
  pub from : start ≤ next
  pub mapped : (q : ℕ) → start ≤ q → q < next → is_some (page_map areas q) ≡ true
  pub ends : page_map front next ≡ None

-- at first it is mapped up to its start
pub IsMappedTo-start : (areas : List Area) (n start : ℕ) → AllByRecursion (λ a. a.end ≤ start) (take n areas) → IsMappedTo areas (take n areas) start start
IsMappedTo-start areas n start ended = record {
  from = omega arith;
  mapped = λ q low high. absurd (omega (arith, low, high));
  ends = none_from (take n areas) start ended start (omega arith);
}

module _ (areas front : List Area) (a : Area) (rest : List Area) (start next : ℕ) (is : areas ≡ front ++ a ∷ rest) (runs : AreRuns areas) (so_far : IsMappedTo areas front start next) where
  -- an area that begins behind the next page leaves it out
  pub IsMappedTo-same : next < a.start → IsMappedTo areas (front ++ a ∷ []) start next
  IsMappedTo-same before = record {
    from = so_far.from;
    mapped = so_far.mapped;
    ends = page_map-append front (a ∷ []) next ∙ rw so_far.ends (page_map-below a [] next before);
  }

  -- one that begins there or before it maps the pages up to its end
  pub IsMappedTo-more : a.start ≤ next → IsMappedTo areas (front ++ a ∷ []) start (max next a.end)
  IsMappedTo-more begun = record {
    from = let from = so_far.from in omega arith;
    mapped = λ q low high. inside q low high (cases_lt q next);
    ends = page_map-append front (a ∷ []) (max next a.end) ∙ rw (behind (cases_lt next a.end)) (page_map-behind a [] (max next a.end) (omega arith));
  }
    where
      inside : (q : ℕ) → start ≤ q → q < max next a.end → (q < next) ⊎ (next ≤ q) → is_some (page_map areas q) ≡ true
      inside q low high (inl below) = so_far.mapped q low below
      inside q low high (inr above) = ap is_some (page_map-at areas front a rest is runs q (omega arith) (omega arith))

      behind : (next < a.end) ⊎ (a.end ≤ next) → page_map front (max next a.end) ≡ None
      behind (inl short) = page_map-front front a rest (rw is at runs) (max next a.end) (omega arith)
      behind (inr done) =
          let same : max next a.end ≡ next = omega arith in
          rw same so_far.ends

-- the range is mapped exactly if it ends by the next page, where that isn't mapped
pub is_mapped-areas : (areas front : List Area) (start len next : ℕ) → IsMappedTo areas front start next → (next < start + len → page_map areas next ≡ None) → leb (start + len) next ≡ is_mapped (page_map areas) start len
is_mapped-areas areas front start len next all stops = go (cases_Bool (leb (start + len) next))
  where
    go : (leb (start + len) next ≡ true) ⊎ (leb (start + len) next ≡ false) → leb (start + len) next ≡ is_mapped (page_map areas) start len
    go (inl ended) =
        let within = leb-true (start + len) next ended in
        ended ∙ sym (each_page-from is_some (page_map areas) start len (λ q low high. all.mapped q low (omega arith)))
    go (inr not_yet) =
        let beyond = leb-false (start + len) next not_yet in
        not_yet ∙ sym (each_page-not is_some (page_map areas) start len next all.from beyond (ap is_some (stops beyond)))

-- the next page isn't mapped where the next area begins behind it
pub next_unmapped : (areas front : List Area) (a : Area) (rest : List Area) (start next : ℕ) → areas ≡ front ++ a ∷ rest → AreRuns areas → IsMappedTo areas front start next → next < a.start → page_map areas next ≡ None
next_unmapped areas front a rest start next is runs so_far before =
    ap (λ xs. page_map xs next) is ∙ page_map-append front (a ∷ rest) next ∙ rw so_far.ends (page_map-before a rest (AreRuns-from front a rest (rw is at runs)) next before)

-- the end of the last area, or else a page
abbrev last_end : ℕ → List Area → ℕ
last_end low [] = low
last_end low (a ∷ areas) = last_end a.end areas

-- with one more area it is the end of that
last_end-push : (low : ℕ) (front : List Area) (a : Area) → last_end low (front ++ a ∷ []) ≡ a.end
last_end-push low [] a = refl
last_end-push low (x ∷ front) a = last_end-push x.end front a

-- the next area begins there or behind it
last_end-next : (x : Area) (front : List Area) (a : Area) (rest : List Area) → AreRuns (x ∷ (front ++ a ∷ rest)) → last_end x.end front ≤ a.start
last_end-next x [] a rest runs = runs.1.ascend
last_end-next x (y ∷ front) a rest runs = last_end-next y front a rest runs.2

-- runs end at the end of the last one, within the space
last_end-within : (a : Area) (areas : List Area) → AreRuns (a ∷ areas) → (a.end ≤ last_end a.end areas) × (last_end a.end areas ≤ 1048576)
last_end-within a [] runs = (omega arith, runs.within)
last_end-within a (b ∷ areas) runs =
    let rest = last_end-within b areas runs.2 in
    let ascend = runs.1.ascend in
    let some = (AreRuns-head b areas runs.2).some in
    (omega arith, rest.1)

-- no run has a page from there on
page_map-last_end : (low : ℕ) (areas : List Area) → AreRuns areas → (q : ℕ) → last_end low areas ≤ q → page_map areas q ≡ None
page_map-last_end low [] runs q above = refl
page_map-last_end low (a ∷ areas) runs q above =
    let ends = (last_end-within a areas runs).0 in
    page_map-behind a areas q (omega arith) ∙ page_map-last_end a.end areas (AreRuns-tail a areas runs) q above

-- no range that begins in the areas so far or before them is free
pub record HasNoGap (areas front : List Area) (len start : ℕ) : Type 0 where
  pub ends : start ≡ last_end 0 front
  pub none : (q : ℕ) → q < start → is_free (page_map areas) q len ≡ false

-- none does so before the first area
pub HasNoGap-start : (areas : List Area) (len : ℕ) → HasNoGap areas [] len 0
HasNoGap-start areas len = record { ends = refl; none = λ q below. absurd (omega arith) }

module _ (areas front : List Area) (a : Area) (rest : List Area) (len start : ℕ) (is : areas ≡ front ++ a ∷ rest) (runs : AreRuns areas) (so_far : HasNoGap areas front len start) where
  -- the next area begins where the last one ends, or behind it
  pub gap-start : start ≤ a.start
  gap-start = rw so_far.ends (go front (rw is at runs))
    where
      go : (xs : List Area) → AreRuns (xs ++ a ∷ rest) → last_end 0 xs ≤ a.start
      go [] runs' = omega arith
      go (x ∷ xs) runs' = last_end-next x xs a rest runs'

  -- a gap of so many pages in front of it is the lowest free range
  pub gap-found : len ≤ a.start - start → lowest_free (page_map areas) len ≡ Some start
  gap-found wide =
      let begins = gap-start in
      let first = AreRuns-head a rest (AreRuns-from front a rest (rw is at runs)) in
      let some = first.some in
      let within = first.within in
      first_free-some (page_map areas) len 0 (1048577 - len) start (omega arith) (omega arith) (λ q low high. so_far.none q high) (each_page-from is_none (page_map areas) start len (λ q low high. ap is_none (gap q low (omega arith))))
    where
      gap : (q : ℕ) → start ≤ q → q < a.start → page_map areas q ≡ None
      gap q low high =
          let ends = so_far.ends in
          ap (λ xs. page_map xs q) is ∙ page_map-append front (a ∷ rest) q ∙ rw (page_map-last_end 0 front (AreRuns-init front (a ∷ rest) (rw is at runs)) q (omega arith)) (page_map-before a rest (AreRuns-from front a rest (rw is at runs)) q high)

  -- with a narrower gap, no free range begins up to its end
  pub HasNoGap-more : a.start - start < len → HasNoGap areas (front ++ a ∷ []) len a.end
  HasNoGap-more narrow = record {
    ends = sym (last_end-push 0 front a);
    none = λ q below. go q below (cases_lt q start);
  }
    where
      go : (q : ℕ) → q < a.end → (q < start) ⊎ (start ≤ q) → is_free (page_map areas) q len ≡ false
      go q below (inl before) = so_far.none q before
      go q below (inr from) =
          let some = (AreRuns-head a rest (AreRuns-from front a rest (rw is at runs))).some in
          let here = page_map-at areas front a rest is runs (max q a.start) (omega arith) (omega arith) in
          each_page-not is_none (page_map areas) q len (max q a.start) (omega arith) (omega arith) (ap is_none here)

module _ (areas : List Area) (len start : ℕ) (runs : AreRuns areas) (all : HasNoGap areas areas len start) where
  -- the last area ends within the space
  pub gap-within : start ≤ 1048576
  gap-within = rw all.ends (go areas runs)
    where
      go : (xs : List Area) → AreRuns xs → last_end 0 xs ≤ 1048576
      go [] runs' = omega arith
      go (x ∷ xs) runs' = (last_end-within x xs runs').1

  -- the range behind it is the lowest free one, if it is within the space
  pub gap-last : lowest_free (page_map areas) len ≡ then_some (leb len (1048576 - start)) start
  gap-last = go (cases_Bool (leb len (1048576 - start)))
    where
      behind : (q : ℕ) → start ≤ q → page_map areas q ≡ None
      behind q low = let ends = all.ends in page_map-last_end 0 areas runs q (omega arith)

      go : (leb len (1048576 - start) ≡ true) ⊎ (leb len (1048576 - start) ≡ false) → lowest_free (page_map areas) len ≡ then_some (leb len (1048576 - start)) start
      go (inl fits) =
          let within = gap-within in
          let room = leb-true len (1048576 - start) fits in
          first_free-some (page_map areas) len 0 (1048577 - len) start (omega arith) (omega arith) (λ q low high. all.none q high) (each_page-from is_none (page_map areas) start len (λ q low high. ap is_none (behind q low))) ∙ ap (λ b. then_some b start) (sym fits)
      go (inr long) =
          let room = leb-false len (1048576 - start) long in
          first_free-none (page_map areas) len 0 (1048577 - len) (λ q low high. all.none q (omega arith)) ∙ ap (λ b. then_some b start) (sym long)

-- map any at the lowest free start is map there
pub mapped_any-at : (m : PageMap) (len prot start : ℕ) → (len ≡ 0 → ⊥) → lowest_free m len ≡ Some start → mapped_any m len prot ≡ mapped m start len prot
mapped_any-at m len prot start some at =
    cond-false (eqb len 0) _ (mapped_at m (lowest_free m len) len prot) (ne_eqb len 0 some) ∙ ap (λ o. mapped_at m o len prot) at
