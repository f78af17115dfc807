-- What the runs of a page map are.
use Rattle.std.proofs.Common.{◌≡◌, ℕ, ◌+◌, ◌<◌, ◌≤◌, List, [], ◌∷◌, refl, zero, suc, Option, Some, None, IfSome, ◌⊎◌, inl, inr, sym, ◌∙◌, arith}
use Rattle.std.proofs.Math.Path.{fun_ext}
use Rattle.std.proofs.lemmas.Bool.Decides.{nat_tests}
use Rattle.std.proofs.lemmas.Bool.{cases_lt, cases_eq}
use Rattle.word_bits.specs.declared.area.Area.{Area}
use Rattle.word_bits.specs.AreaWord.{IsArea}
use Rattle.word_bits.specs.PageMaps.{PageMap, IsPageMap, extended, runs, runs_from}
use Rattle.vma_map.specs.Runs.{page_map, AreRuns}
use Rattle.vma_map.specs.Laws.Area.{page_map-in, page_map-before, page_map-past, page_map-prots, AreRuns-head, AreRuns-unique}

-- the first area begins at the page or behind it
abbrev StartsFrom : ℕ → List Area → Type 0
StartsFrom page [] = Unit {0}
StartsFrom page (a ∷ areas) = page ≤ a.start

-- runs from a page on have no page below it
page_map-under : (areas : List Area) (low : ℕ) → AreRuns areas → StartsFrom low areas → (page : ℕ) → page < low → page_map areas page ≡ None
page_map-under [] low runs starts page below = refl
page_map-under (a ∷ areas) low runs starts page below = page_map-before a areas runs page (omega arith)

-- another area of the same end and protection leads the same runs
AreRuns-led : (a b : Area) (areas : List Area) → AreRuns (a ∷ areas) → IsArea b → b.end ≡ a.end → b.prot ≡ a.prot → AreRuns (b ∷ areas)
AreRuns-led a b [] runs is end prot = is
AreRuns-led a b (c ∷ areas) runs is end prot =
    (is, record { ascend = let h = runs.1.ascend in omega arith; differ = λ touch same. runs.1.differ (cc) (cc) }, runs.2)

-- a page joined to the run behind it
extended-joined : (page prot : ℕ) (r : Area) (areas : List Area) → r.start ≡ page + 1 → r.prot ≡ prot
    → extended page (Some prot) (r ∷ areas) ≡ record { start = page; end = r.end; prot = prot } ∷ areas
extended-joined page prot r areas touch same = grind (arith, nat_tests)

-- a page that is a run of its own
extended-apart : (page prot : ℕ) (r : Area) (areas : List Area) → (r.start ≡ page + 1 → r.prot ≡ prot → ⊥)
    → extended page (Some prot) (r ∷ areas) ≡ record { start = page; end = page + 1; prot = prot } ∷ (r ∷ areas)
extended-apart page prot r areas apart = grind (arith, nat_tests)

-- runs with a page in front of them are runs
extended-runs : (page : ℕ) (o : Option ℕ) (areas : List Area) → IfSome o (λ prot. prot < 8) → page < 1048576 → AreRuns areas → StartsFrom (page + 1) areas → AreRuns (extended page o areas)
    × StartsFrom page (extended page o areas)
extended-runs page None [] small below runs starts = (runs, tt)
extended-runs page None (a ∷ areas) small below runs starts = (runs, omega arith)
extended-runs page (Some prot) [] small below runs starts =
    (record { prot = small; some = omega arith; within = omega arith }, omega arith)
extended-runs page (Some prot) (a ∷ areas) small below runs starts =
    go (cases_eq a.start (page + 1)) (cases_eq a.prot prot)
  where
    first : IsArea a
    first = AreRuns-head a areas runs

    apart : (a.start ≡ page + 1 → a.prot ≡ prot → ⊥) → AreRuns (extended page (Some prot) (a ∷ areas)) × StartsFrom page (extended page (Some prot) (a ∷ areas))
    apart differ = rw (extended-apart page prot a areas differ) (
      (
        record { prot = small; some = omega arith; within = omega arith },
        record
            { ascend = starts; differ = λ touch same. differ (sym touch) (sym same) },
        runs,
      ),
      omega arith,
    )

    go : (a.start ≡ page + 1) ⊎ (a.start ≡ page + 1 → ⊥) → (a.prot ≡ prot) ⊎ (a.prot ≡ prot → ⊥) → AreRuns (extended page (Some prot) (a ∷ areas))
        × StartsFrom page (extended page (Some prot) (a ∷ areas))
    go (inl touch) (inl same) =
        let some = first.some in
        let within = first.within in
        rw (extended-joined page prot a areas touch same) (
          AreRuns-led a (record { start = page; end = a.end; prot = prot }) areas runs (record { prot = small; some = omega arith; within = within })
              refl (sym same),
          omega arith,
        )
    go (inl touch) (inr other) = apart (λ _ same. other same)
    go (inr gap) same = apart (λ touch _. gap touch)

-- a page that the first area doesn't have
pub outside : (a : Area) (areas : List Area) (page : ℕ) → (a.start ≤ page → a.end ≤ page) → page_map (a ∷ areas) page ≡ page_map areas page
outside a areas page out = grind (arith, nat_tests)

-- an area that begins a page sooner has the other pages as before
longer : (page prot : ℕ) (a : Area) (areas : List Area) (q : ℕ) → a.start ≡ page + 1 → a.prot ≡ prot → (q ≡ page → ⊥)
    → page_map (record { start = page; end = a.end; prot = prot } ∷ areas) q ≡ page_map (a ∷ areas) q
longer page prot a areas q touch same other = grind (arith, nat_tests)

-- the pages of runs with a page in front of them: that page
extended-here : (page : ℕ) (o : Option ℕ) (areas : List Area) → AreRuns areas → StartsFrom (page + 1) areas → page_map (extended page o areas) page ≡ o
extended-here page None areas runs starts = page_map-under areas (page + 1) runs starts page (omega arith)
extended-here page (Some prot) [] runs starts = page_map-in _ [] page (omega arith) (omega arith)
extended-here page (Some prot) (a ∷ areas) runs starts =
    go (cases_eq a.start (page + 1)) (cases_eq a.prot prot)
  where
    apart : (a.start ≡ page + 1 → a.prot ≡ prot → ⊥) → page_map (extended page (Some prot) (a ∷ areas)) page ≡ Some prot
    apart differ = rw (extended-apart page prot a areas differ) (page_map-in (record { start = page; end = page + 1; prot = prot }) (a ∷ areas) page (omega arith) (omega arith))

    go : (a.start ≡ page + 1) ⊎ (a.start ≡ page + 1 → ⊥) → (a.prot ≡ prot) ⊎ (a.prot ≡ prot → ⊥) → page_map (extended page (Some prot) (a ∷ areas)) page ≡ Some prot
    go (inl touch) (inl same) =
        let some = (AreRuns-head a areas runs).some in
        rw (extended-joined page prot a areas touch same) (page_map-in (record { start = page; end = a.end; prot = prot }) areas page (omega arith) (omega arith))
    go (inl touch) (inr other) = apart (λ _ same. other same)
    go (inr gap) same = apart (λ touch _. gap touch)

-- and the others
extended-there : (page : ℕ) (o : Option ℕ) (areas : List Area) → AreRuns areas → StartsFrom (page + 1) areas → (q : ℕ) → (q ≡ page → ⊥) → page_map (extended page o areas) q ≡ page_map areas q
extended-there page None areas runs starts q other = refl
extended-there page (Some prot) [] runs starts q other = grind (arith, nat_tests)
extended-there page (Some prot) (a ∷ areas) runs starts q other =
    go (cases_eq a.start (page + 1)) (cases_eq a.prot prot)
  where
    apart : (a.start ≡ page + 1 → a.prot ≡ prot → ⊥) → page_map (extended page (Some prot) (a ∷ areas)) q ≡ page_map (a ∷ areas) q
    apart differ = rw (extended-apart page prot a areas differ) (outside (record { start = page; end = page + 1; prot = prot }) (a ∷ areas) q (λ low. omega arith))

    go : (a.start ≡ page + 1) ⊎ (a.start ≡ page + 1 → ⊥) → (a.prot ≡ prot) ⊎ (a.prot ≡ prot → ⊥) → page_map (extended page (Some prot) (a ∷ areas)) q ≡ page_map (a ∷ areas) q
    go (inl touch) (inl same) =
        let some = (AreRuns-head a areas runs).some in
        rw (extended-joined page prot a areas touch same) (longer page prot a areas q touch same other)
    go (inl touch) (inr other) = apart (λ _ same. other same)
    go (inr gap) same = apart (λ touch _. gap touch)

-- the runs of so many pages are runs
runs_from-runs : (m : PageMap) → ((page : ℕ) → IfSome (m page) (λ prot. prot < 8)) → (count page : ℕ) → page + count ≤ 1048576 → AreRuns (runs_from m page count)
    × StartsFrom page (runs_from m page count)
unfolding runs_from
runs_from-runs m prots zero page within = (tt, tt)
runs_from-runs m prots (suc count) page within =
    let (runs, starts) = runs_from-runs m prots count (page + 1) (omega arith) in
    extended-runs page (m page) (runs_from m (page + 1) count) (prots page) (omega arith) runs starts

-- they have the protections of these pages
runs_from-pages : (m : PageMap) → ((page : ℕ) → IfSome (m page) (λ prot. prot < 8)) → (count page : ℕ) → page + count ≤ 1048576 → (q : ℕ) → page ≤ q → q < page + count
    → page_map (runs_from m page count) q ≡ m q
unfolding runs_from
runs_from-pages m prots zero page within q low high = absurd (omega arith)
runs_from-pages m prots (suc count) page within q low high =
    let (runs, starts) = runs_from-runs m prots count (page + 1) (omega arith) in
    go (cases_eq q page) (λ low' high'. runs_from-pages m prots count (page + 1) (omega arith) q low' high') runs starts
  where
    go : (q ≡ page) ⊎ (q ≡ page → ⊥) → (page + 1 ≤ q → q < page + 1 + count → page_map (runs_from m (page + 1) count) q ≡ m q) → AreRuns (runs_from m (page + 1) count)
        → StartsFrom (page + 1) (runs_from m (page + 1) count) → page_map (runs_from m page (suc count)) q ≡ m q
    go (inl here) rest runs starts =
        rw here (extended-here page (m page) (runs_from m (page + 1) count) runs starts)
    go (inr there) rest runs starts =
        extended-there page (m page) (runs_from m (page + 1) count) runs starts q there ∙ rest (omega arith) (omega arith)

-- and no others
runs_from-none : (m : PageMap) → ((page : ℕ) → IfSome (m page) (λ prot. prot < 8)) → (count page : ℕ) → page + count ≤ 1048576 → (q : ℕ) → page + count ≤ q → page_map (runs_from m page count) q ≡ None
unfolding runs_from
runs_from-none m prots zero page within q high = refl
runs_from-none m prots (suc count) page within q high =
    let (runs, starts) = runs_from-runs m prots count (page + 1) (omega arith) in
    extended-there page (m page) (runs_from m (page + 1) count) runs starts q (λ e. omega arith) ∙ runs_from-none m prots count (page + 1) (omega arith) q (omega arith)

-- the runs of an address space are runs
pub runs-runs : (m : PageMap) → ((page : ℕ) → IfSome (m page) (λ prot. prot < 8)) → AreRuns (runs m)
unfolding runs
runs-runs m prots = (runs_from-runs m prots 1048576 0 (omega arith)).0

-- they have its pages
pub page_map-runs : (m : PageMap) → IsPageMap m → page_map (runs m) ≡ m
unfolding runs
page_map-runs m is = fun_ext (λ page. go page (cases_lt page 1048576))
  where
    go : (page : ℕ) → (page < 1048576) ⊎ (1048576 ≤ page) → page_map (runs m) page ≡ m page
    go page (inl below) = runs_from-pages m is.prots 1048576 0 (omega arith) page (omega arith) below
    go page (inr past) = runs_from-none m is.prots 1048576 0 (omega arith) page past ∙ sym (is.within page past)

-- areas in order are the runs of what they say
pub runs-page_map : (areas : List Area) → AreRuns areas → runs (page_map areas) ≡ areas
unfolding runs
runs-page_map areas are =
    AreRuns-unique (runs (page_map areas)) areas (runs-runs (page_map areas) (page_map-prots areas are)) are (λ page. go page (cases_lt page 1048576))
  where
    go : (page : ℕ) → (page < 1048576) ⊎ (1048576 ≤ page) → page_map (runs (page_map areas)) page ≡ page_map areas page
    go page (inl below) = runs_from-pages (page_map areas) (page_map-prots areas are) 1048576 0 (omega arith) page (omega arith) below
    go page (inr past) = runs_from-none (page_map areas) (page_map-prots areas are) 1048576 0 (omega arith) page past ∙ sym (page_map-past areas are page past)
