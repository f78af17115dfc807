-- What populate counts.
use Rattle.std.proofs.Common.{◌≡◌, ◌≢◌, ℕ, zero, suc, ◌+◌, ◌*◌, ◌%◌, ◌<◌, ◌≤◌, ◌==◌, ◌||◌, nat_le, nat_lt, Bool, true, false, ◌-◌, min, max, List, [], ◌∷◌, ◌++◌, ◌⊎◌, ⊎_elim, length, drop, take, get_or, None, Some, refl, sym, ap, ◌∙◌, arith, if◌then◌else◌}
use Rattle.std.proofs.lemmas.Bool.Decides.{nat_tests}
use Rattle.word_bits.specs.PageMaps.{PageMap, runs}
use Rattle.lock_core.specs.Records.{bit}
use Rattle.vma_map.specs.Spaces.{changed, with_range, populated, readable}
use Rattle.std.specs.List.{AllByRecursion}
use Rattle.std.proofs.lemmas.List.{take_more}
use Rattle.vma_map.specs.Runs.{page_map, AreRuns}
use Rattle.vma_map.specs.Laws.Area.{page_map-in, page_map-behind, page_map-below, page_map-low, AreRuns-head, AreRuns-tail}
use Rattle.vma_map.proofs.CountLemmas.{covered}
use Rattle.guarded.specs.CallServing.{part, share, readable_from, is_readable}
use Rattle.guarded.specs.Types.{Errno, NoMem, Inval, Reply, Num, Refused, Area}

inside : (s : PageMap) (start end page prot : ℕ) → start ≤ page → page < end → changed s start end (Some prot) page ≡ Some prot
inside s start end page prot a b = grind (arith, nat_tests)

all-alike : (m : PageMap) (prot page n : ℕ) → ((i : ℕ) → page ≤ i → i < page + n → m i ≡ Some prot) → readable_from m page n ≡ n * bit ((prot % 2) == 1)
all-alike m prot page zero each = omega arith
all-alike m prot page (suc n) each =
    let rest = all-alike m prot (page + 1) n (λ i a b. each i (omega (arith, a)) (omega (arith, b))) in
    let here : bit (is_readable (m page)) ≡ bit ((prot % 2) == 1) = ap (λ p. bit (is_readable p)) (each page (omega arith) (omega arith)) in
    omega (arith, rest, here)

times-bit : (b : Bool) (n : ℕ) → n * bit b ≡ (if b then n else 0)
times-bit true n = omega arith
times-bit false n = omega arith

counts-changed : (s : PageMap) (start len prot : ℕ) → readable_from (changed s start (start + len) (Some prot)) start len ≡ readable len prot
counts-changed s start len prot = all-alike (changed s start (start + len) (Some prot)) prot start len (λ i a b. inside s start (start + len) i prot a b) ∙ times-bit ((prot % 2) == 1) len

abbrev either : Bool → PageMap × Reply → PageMap × Reply → PageMap × Reply
either b x y = if b then x else y

pick : (b : Bool) (s n m : PageMap) (start len count : ℕ) → (either b (n, Num count) (s, Refused NoMem)).0 ≡ m → ((e : Errno) → (either b (n, Num count) (s, Refused NoMem)).1 ≢ Refused e) → readable_from n start len ≡ count → Num (readable_from m start len) ≡ (either b (n, Num count) (s, Refused NoMem)).1
pick true s n m start len count next fine is = ap Num (ap (λ (x : PageMap). readable_from x start len) (sym next) ∙ is)
pick false s n m start len count next fine is = absurd (fine NoMem refl)

if-valid : (b : Bool) (s m : PageMap) (start len : ℕ) (p : PageMap × Reply) → (either b (s, Refused Inval) p).0 ≡ m → ((e : Errno) → (either b (s, Refused Inval) p).1 ≢ Refused e) → (p.0 ≡ m → ((e : Errno) → p.1 ≢ Refused e) → Num (readable_from m start len) ≡ p.1) → Num (readable_from m start len) ≡ (either b (s, Refused Inval) p).1
if-valid true s m start len p next fine go = absurd (fine Inval refl)
if-valid false s m start len p next fine go = go next fine

-- what it counts where it left these pages is what it replied
pub populate-counts : (s m : PageMap) (start len prot : ℕ) → (populated s start len prot).0 ≡ m → ((e : Errno) → (populated s start len prot).1 ≢ Refused e) → Num (readable_from m start len) ≡ (populated s start len prot).1
populate-counts s m start len prot next fine =
    if-valid ((len == 0) || nat_lt 1048576 (start + len)) s m start len (with_range s start len (Some prot) (Num (readable len prot))) next fine
    (λ next fine. pick (nat_le (length (runs (changed s start (start + len) (Some prot)))) 256) s (changed s start (start + len) (Some prot)) m start len (readable len prot) next fine (counts-changed s start len prot))

part-more : (b : Bool) (m n : ℕ) → m ≡ n + 1 → part b m ≡ bit b + part b n
part-more true m n e = omega (arith, e)
part-more false m n e = omega arith

part-le : (b : Bool) (n : ℕ) → part b n ≤ n
part-le true n = omega arith
part-le false n = omega arith

part-none : (b : Bool) (n : ℕ) → n ≡ 0 → part b n ≡ 0
part-none true n e = e
part-none false n e = omega arith

-- how many pages between two several areas have that admit reading
abbrev pub shares : List Area → ℕ → ℕ → ℕ
shares [] start end = 0
shares (a ∷ areas) start end = share a start end + shares areas start end

shares-append : (xs ys : List Area) (start end : ℕ) → shares (xs ++ ys) start end ≡ shares xs start end + shares ys start end
shares-append [] ys start end = omega arith
shares-append (x ∷ xs) ys start end = omega (arith, shares-append xs ys start end)

-- one more area
pub shares-more : (areas : List Area) (i : ℕ) (d : Area) (start end : ℕ) → i < length areas → shares (take (i + 1) areas) start end ≡ shares (take i areas) start end + share (get_or areas i d) start end
shares-more areas i d start end below = ap (λ xs. shares xs start end) (take_more areas i d below) ∙ (shares-append (take i areas) (get_or areas i d ∷ []) start end ∙ omega arith)

pub shares-le : (areas : List Area) (start end : ℕ) → shares areas start end ≤ covered areas
shares-le [] start end = omega arith
shares-le (a ∷ areas) start end = let rest = shares-le areas start end in let here = part-le ((a.prot % 2) == 1) (min a.end end - max a.start start) in omega (arith, rest, here)

-- areas that end at the first page or before it have no share
pub shares-ended : (areas : List Area) (start end : ℕ) → AllByRecursion (λ a. a.end ≤ start) areas → shares areas start end ≡ 0
shares-ended [] start end all = refl
shares-ended (a ∷ areas) start end all = let e = all.0 in let z : min a.end end - max a.start start ≡ 0 = omega (arith, e) in let here = part-none ((a.prot % 2) == 1) (min a.end end - max a.start start) z in let rest = shares-ended areas start end all.1 in omega (arith, here, rest)

-- all up to one that has ended have
pub ended-by : (areas : List Area) (i : ℕ) (d : Area) (page : ℕ) → AreRuns areas → i < length areas → (get_or areas i d).end ≤ page → AllByRecursion (λ a. a.end ≤ page) (take (suc i) areas)
ended-by [] i d page runs below ended = absurd (omega (arith, below))
ended-by (a ∷ areas) zero d page runs below ended = (ended, tt)
ended-by (a ∷ []) (suc i) d page runs below ended = absurd (omega (arith, below))
ended-by (a ∷ (b ∷ areas)) (suc i) d page runs below ended =
    let rest = ended-by (b ∷ areas) i d page runs.2 (omega (arith, below)) ended in
    let first = rest.0 in
    let ascend = runs.1.ascend in
    let some = (AreRuns-head b areas runs.2).some in
    (omega (arith, first, ascend, some), rest)

-- all behind one that ends behind the page do
ending-first : (a : Area) (areas : List Area) (page : ℕ) → AreRuns (a ∷ areas) → page < a.end → AllByRecursion (λ a. page < a.end) (a ∷ areas)
ending-first a [] page runs high = (high, tt)
ending-first a (b ∷ areas) page runs high =
    let ascend = runs.1.ascend in
    let some = (AreRuns-head b areas runs.2).some in
    (high, ending-first b areas page runs.2 (omega (arith, high, ascend, some)))

pub ending-from : (areas : List Area) (i : ℕ) (d : Area) (page : ℕ) → AreRuns areas → i < length areas → page < (get_or areas i d).end → AllByRecursion (λ a. page < a.end) (drop i areas)
ending-from [] i d page runs below high = absurd (omega (arith, below))
ending-from (a ∷ areas) zero d page runs below high = ending-first a areas page runs high
ending-from (a ∷ areas) (suc i) d page runs below high = ending-from areas i d page (AreRuns-tail a areas runs) (omega (arith, below)) high

-- areas of which the first begins at the range's end or behind it have no share
pub shares-behind : (a : Area) (areas : List Area) (start end : ℕ) → AreRuns (a ∷ areas) → end ≤ a.start → shares (a ∷ areas) start end ≡ 0
shares-behind a [] start end runs low = let z : min a.end end - max a.start start ≡ 0 = omega (arith, low) in let here = part-none ((a.prot % 2) == 1) (min a.end end - max a.start start) z in omega (arith, here)
shares-behind a (b ∷ areas) start end runs low =
    let ascend = runs.1.ascend in
    let some = (AreRuns-head a (b ∷ areas) runs).some in
    let z : min a.end end - max a.start start ≡ 0 = omega (arith, low) in
    let here = part-none ((a.prot % 2) == 1) (min a.end end - max a.start start) z in
    let rest = shares-behind b areas start end runs.2 (omega (arith, low, ascend, some)) in
    omega (arith, here, rest)

-- so the areas in front of such a one have all shares
pub shares-front : (areas : List Area) (i : ℕ) (d : Area) (start end : ℕ) → AreRuns areas → i < length areas → end ≤ (get_or areas i d).start → shares areas start end ≡ shares (take i areas) start end
shares-front [] i d start end runs below low = absurd (omega (arith, below))
shares-front (a ∷ areas) zero d start end runs below low = shares-behind a areas start end runs low
shares-front (a ∷ areas) (suc i) d start end runs below low = ap (λ (n : ℕ). share a start end + n) (shares-front areas i d start end (AreRuns-tail a areas runs) (omega (arith, below)) low)

-- an end behind all pages is as good as another
pub shares-end : (areas : List Area) (start end end' : ℕ) → AreRuns areas → (end ≡ end') ⊎ ((1048576 ≤ end) × (1048576 ≤ end')) → shares areas start end ≡ shares areas start end'
shares-end [] start end end' runs e = refl
shares-end (a ∷ areas) start end end' runs e =
    let within = (AreRuns-head a areas runs).within in
    let here : min a.end end ≡ min a.end end' = ⊎_elim (λ (s : end ≡ end'). ap (min a.end) s) (λ (l : (1048576 ≤ end) × (1048576 ≤ end')). let x = l.0 in let y = l.1 in omega (arith, within, x, y)) e in
    (λ i. part ((a.prot % 2) == 1) (here i - max a.start start) + shares-end areas start end end' (AreRuns-tail a areas runs) e i)

none-readable : (m : PageMap) (page n : ℕ) → ((q : ℕ) → m q ≡ None) → readable_from m page n ≡ 0
none-readable m page zero none = refl
none-readable m page (suc n) none = let rest = none-readable m (page + 1) n none in let here : bit (is_readable (m page)) ≡ 0 = ap (λ p. bit (is_readable p)) (none page) in omega (arith, rest, here)

module _ (a : Area) (areas : List Area) (runs : AreRuns (a ∷ areas)) where
  abbrev here : ℕ → ℕ
  here page = bit (is_readable (page_map (a ∷ areas) page))

  abbrev there : ℕ → ℕ
  there page = bit (is_readable (page_map areas page))

  -- one page, in an area or in those behind it
  one-page : (page n : ℕ) → here page + share a (page + 1) (page + 1 + n) ≡ share a page (page + suc n) + there page
  one-page page n = elim (native.Mathlib.Decide.dec_le a.start page) [
    | yes above ↦ elim (native.Mathlib.Decide.dec_le a.end page) [
      | yes behind ↦ let same : here page ≡ there page = ap (λ p. bit (is_readable p)) (page_map-behind a areas page behind) in
          let x = part-none ((a.prot % 2) == 1) (min a.end (page + 1 + n) - max a.start (page + 1)) (omega (arith, behind)) in
          let y = part-none ((a.prot % 2) == 1) (min a.end (page + suc n) - max a.start page) (omega (arith, behind)) in
          omega (arith, same, x, y)
      | no inside ↦ let own : here page ≡ bit ((a.prot % 2) == 1) = ap (λ p. bit (is_readable p)) (page_map-in a areas page above (omega (arith, inside))) in
          let none : there page ≡ 0 = ap (λ p. bit (is_readable p)) (page_map-low a areas runs page (omega (arith, inside))) in
          let more = part-more ((a.prot % 2) == 1) (min a.end (page + suc n) - max a.start page) (min a.end (page + 1 + n) - max a.start (page + 1)) (omega (arith, above, inside)) in
          omega (arith, own, none, more)
    ]
    | no below ↦ let same : here page ≡ there page = ap (λ p. bit (is_readable p)) (page_map-below a areas page (omega (arith, below))) in
        let e : min a.end (page + 1 + n) - max a.start (page + 1) ≡ min a.end (page + suc n) - max a.start page = omega (arith, below) in
        let f : share a (page + 1) (page + 1 + n) ≡ share a page (page + suc n) = ap (part ((a.prot % 2) == 1)) e in
        omega (arith, same, f)
  ]

  first-share : (n page : ℕ) → readable_from (page_map (a ∷ areas)) page n ≡ share a page (page + n) + readable_from (page_map areas) page n
  first-share zero page = let x = part-none ((a.prot % 2) == 1) (min a.end (page + 0) - max a.start page) (omega arith) in omega (arith, x)
  first-share (suc n) page = let rest = first-share n (page + 1) in let one = one-page page n in omega (arith, rest, one)

-- counted run by run
pub counted-runs : (areas : List Area) → AreRuns areas → (page n : ℕ) → readable_from (page_map areas) page n ≡ shares areas page (page + n)
counted-runs [] runs page n = none-readable (page_map []) page n (λ q. refl)
counted-runs (a ∷ areas) runs page n = let rest = counted-runs areas (AreRuns-tail a areas runs) page n in let first = first-share a areas runs n page in omega (arith, rest, first)
