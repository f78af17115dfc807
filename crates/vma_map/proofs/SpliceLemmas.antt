-- Areas in order of which some are replaced.
use Rattle.std.proofs.Common.{◌≡◌, ℕ, ◌+◌, ◌-◌, min, max, ◌<◌, ◌≤◌, List, [], ◌∷◌, ◌++◌, length, take, drop, get_or, refl, Option, Some, None, cond, ltb, ◌⊎◌, inl, inr, sym, ap, ◌∙◌, arith}
use Rattle.std.specs.List.{AllByRecursion, refill, insert}
use Rattle.std.specs.Option.{option_or}
use Rattle.std.proofs.lemmas.List.{append-nil, append_assoc, take-append-drop, drop-drop, take_at, drop_at, take_more, length-append, length-take, length-drop}
use Rattle.std.proofs.Math.Seq.{take-append_seam, drop-append-add}
use Rattle.std.proofs.Math.Path.{fun_ext}
use Rattle.std.proofs.lemmas.Bool.Decides.{nat_tests}
use Rattle.std.proofs.lemmas.Bool.{cases_lt}
use Rattle.word_bits.specs.declared.area.Area.{Area}
use Rattle.word_bits.specs.PageMaps.{runs}
use Rattle.vma_map.specs.Runs.{page_map, AreRuns, IsSpace}
use Rattle.vma_map.specs.Laws.PageRun.{runs-page_map}
use Rattle.vma_map.specs.Spaces.{changed}
use Rattle.vma_map.specs.Laws.Area.{changed-in, changed-below, changed-above, page_map-in, page_map-behind, page_map-low, page_map-end, AreRuns-head}
use Rattle.vma_map.proofs.RangeLemmas.{page_map-append, page_map-front, ends_before}
use Rattle.vma_map.proofs.CutLemmas.{AreRuns-rest, none_from, none_to, ends_by}

-- runs that end before a page go in front of others that have the same pages below it
pub AreRuns-before : (xs ys ps : List Area) (page : ℕ) → AllByRecursion (λ a. a.end < page) xs → AreRuns (xs ++ ys) → AreRuns ps → ((q : ℕ) → q < page → page_map ps q ≡ page_map ys q) → AreRuns (xs ++ ps)
AreRuns-before [] ys ps page ends runs are same = are
AreRuns-before (a ∷ []) ys ps page ends runs are same = go ps are same
  where
    go : (ps : List Area) → AreRuns ps → ((q : ℕ) → q < page → page_map ps q ≡ page_map ys q) → AreRuns (a ∷ ps)
    go [] are same = AreRuns-head a ys runs
    go (b ∷ bs) are same =
        (AreRuns-head a ys runs, record { ascend = ascend (cases_lt b.start a.end); differ = differ }, are)
      where
        some : b.start < b.end
        some = (AreRuns-head b bs are).some

        here : page_map (b ∷ bs) b.start ≡ Some b.prot
        here = page_map-in b bs b.start (omega arith) some

        ascend : (b.start < a.end) ⊎ (a.end ≤ b.start) → a.end ≤ b.start
        ascend (inl low) =
            let first = ends.0 in
            let none = page_map-low a ys runs b.start low in
            let e = same b.start (omega arith) in
            let mapped = here in
            absurd cc
        ascend (inr high) = high

        differ : a.end ≡ b.start → a.prot ≡ b.prot → ⊥
        differ touch alike =
            let first = ends.0 in
            let e = same a.end (omega arith) in
            let mapped : page_map (b ∷ bs) a.end ≡ Some b.prot = ap (λ q. page_map (b ∷ bs) q) touch ∙ here in
            let joined : page_map ys a.end ≡ Some a.prot = cc in
            page_map-end a ys runs joined
AreRuns-before (a ∷ (b ∷ xs)) ys ps page ends runs are same =
    (runs.0, runs.1, AreRuns-before (b ∷ xs) ys ps page ends.1 runs.2 are same)

-- the page in front of a run has another protection
no_join : (ys : List Area) (z : Area) (zs : List Area) → AreRuns (ys ++ z ∷ zs) → page_map ys (z.start - 1) ≡ Some z.prot → 0 < z.start → ⊥
no_join [] z zs runs e some = absurd cc
no_join (a ∷ []) z zs runs e some = go (cases_lt (z.start - 1) a.end)
  where
    go : (z.start - 1 < a.end) ⊎ (a.end ≤ z.start - 1) → ⊥
    go (inl inside) =
        let ascend = runs.1.ascend in
        let nonempty = runs.0.some in
        let here = page_map-in a [] (z.start - 1) (omega arith) inside in
        let alike : a.prot ≡ z.prot = cc in
        runs.1.differ (omega arith) alike
    go (inr behind) = let none = page_map-behind a [] (z.start - 1) behind in absurd cc
no_join (a ∷ (b ∷ ys)) z zs runs e some =
    let ascend = runs.1.ascend in
    let nonempty = (AreRuns-head b (ys ++ z ∷ zs) runs.2).some in
    let before = ends_before b ys z zs runs.2 in
    no_join (b ∷ ys) z zs runs.2 (sym (page_map-behind a (b ∷ ys) (z.start - 1) (omega arith)) ∙ e) some

-- a page that no area has
none_tail : (a : Area) (areas : List Area) (q : ℕ) → page_map (a ∷ areas) q ≡ None → page_map areas q ≡ None
none_tail a areas q none = grind (arith, nat_tests)

-- runs go in front of a run that they don't reach and that can't be joined
led_by : (ps : List Area) (z : Area) (zs : List Area) → AreRuns (z ∷ zs) → AreRuns ps → ((q : ℕ) → z.start ≤ q → page_map ps q ≡ None) → (page_map ps (z.start - 1) ≡ Some z.prot → ⊥) → AreRuns (ps ++ z ∷ zs)
led_by [] z zs runs are none differ = runs
led_by (b ∷ []) z zs runs are none differ =
    (are, record { ascend = ascend (cases_lt z.start b.end); differ = λ touch alike. let some = are.some in differ (page_map-in b [] (z.start - 1) (omega arith) (omega arith) ∙ ap (λ p. Some p) alike) }, runs)
  where
    ascend : (z.start < b.end) ⊎ (b.end ≤ z.start) → b.end ≤ z.start
    ascend (inl inside) =
        let some = are.some in
        let here = page_map-in b [] (b.end - 1) (omega arith) (omega arith) in
        let out = none (b.end - 1) (omega arith) in
        absurd cc
    ascend (inr before) = before
led_by (b ∷ (c ∷ ps)) z zs runs are none differ =
    (are.0, are.1, led_by (c ∷ ps) z zs runs are.2 (λ q above. none_tail b (c ∷ ps) q (none q above)) (λ e. differ (whole e (cases_lt (z.start - 1) b.end))))
  where
    whole : page_map (c ∷ ps) (z.start - 1) ≡ Some z.prot → (z.start - 1 < b.end) ⊎ (b.end ≤ z.start - 1) → page_map (b ∷ (c ∷ ps)) (z.start - 1) ≡ Some z.prot
    whole e (inl low) = let out = page_map-low b (c ∷ ps) are (z.start - 1) low in absurd cc
    whole e (inr high) = page_map-behind b (c ∷ ps) (z.start - 1) high ∙ e

-- runs that begin behind a page go behind others that have the same pages from it on
pub AreRuns-behind : (ys zs ps : List Area) (page : ℕ) → AllByRecursion (λ a. page < a.start) zs → AreRuns (ys ++ zs) → AreRuns ps → ((q : ℕ) → page ≤ q → page_map ps q ≡ page_map ys q) → AreRuns (ps ++ zs)
AreRuns-behind ys [] ps page starts runs are same = rw (append-nil ps) are
AreRuns-behind ys (z ∷ zs) ps page starts runs are same =
    let first = starts.0 in
    led_by ps z zs (AreRuns-rest ys (z ∷ zs) runs) are (λ q above. same q (omega arith) ∙ page_map-front ys z zs runs q above) (λ e. no_join ys z zs runs (sym (same (z.start - 1) (omega arith)) ∙ e) (omega arith))

module _ (xs ys zs ps : List Area) (start end : ℕ) (prot : Option ℕ) (some : start < end) (ends : AllByRecursion (λ a. a.end < start) xs) (starts : AllByRecursion (λ a. end < a.start) zs) (pages : (q : ℕ) → page_map ps q ≡ changed (page_map ys) start end prot q) where
  -- runs of which those that meet a range are replaced by what a change makes of them
  pub AreRuns-spliced : AreRuns (xs ++ (ys ++ zs)) → AreRuns ps → AreRuns (xs ++ (ps ++ zs))
  AreRuns-spliced runs are =
      AreRuns-before xs (ys ++ zs) (ps ++ zs) start ends runs (AreRuns-behind ys zs ps end starts (AreRuns-rest xs (ys ++ zs) runs) are (λ q high. pages q ∙ changed-above (page_map ys) start end prot q high)) (λ q low. page_map-append ps zs q ∙ ap (λ o. option_or o (page_map zs q)) (pages q ∙ changed-below (page_map ys) start end prot q low) ∙ sym (page_map-append ys zs q))

  -- their pages
  pub page_map-spliced : (q : ℕ) → page_map (xs ++ (ps ++ zs)) q ≡ changed (page_map (xs ++ (ys ++ zs))) start end prot q
  page_map-spliced q = now ∙ go (cases_lt q start) (cases_lt q end)
    where
      whole : List Area
      whole = xs ++ (ys ++ zs)

      now : page_map (xs ++ (ps ++ zs)) q ≡ option_or (page_map xs q) (option_or (changed (page_map ys) start end prot q) (page_map zs q))
      now = page_map-append xs (ps ++ zs) q ∙ ap (λ o. option_or (page_map xs q) o) (page_map-append ps zs q ∙ ap (λ o. option_or o (page_map zs q)) (pages q))

      before : page_map (xs ++ (ys ++ zs)) q ≡ option_or (page_map xs q) (option_or (page_map ys q) (page_map zs q))
      before = page_map-append xs (ys ++ zs) q ∙ ap (λ o. option_or (page_map xs q) o) (page_map-append ys zs q)

      alone : (o : Option ℕ) → option_or None (option_or o None) ≡ o
      alone None = refl
      alone (Some p) = refl

      go : (q < start) ⊎ (start ≤ q) → (q < end) ⊎ (end ≤ q) → option_or (page_map xs q) (option_or (changed (page_map ys) start end prot q) (page_map zs q)) ≡ changed (page_map (xs ++ (ys ++ zs))) start end prot q
      go (inl low) side =
          ap (λ o. option_or (page_map xs q) (option_or o (page_map zs q))) (changed-below (page_map ys) start end prot q low) ∙ sym (changed-below (page_map (xs ++ (ys ++ zs))) start end prot q low ∙ before)
      go (inr from) (inl inside) =
          rw (none_from xs start (ends_by xs start ends) q from, none_to zs end starts q (omega arith), changed-in (page_map ys) start end prot q from inside) (alone prot ∙ sym (changed-in (page_map (xs ++ (ys ++ zs))) start end prot q from inside))
      go (inr from) (inr over) =
          ap (λ o. option_or (page_map xs q) (option_or o (page_map zs q))) (changed-above (page_map ys) start end prot q over) ∙ sym (changed-above (page_map (xs ++ (ys ++ zs))) start end prot q over ∙ before)

-- what the first area leaves in front of a page that it reaches
pub first_piece : (a : Area) (areas : List Area) (page : ℕ) → AreRuns (a ∷ areas) → page ≤ a.end → (q : ℕ) → changed (page_map []) a.start (min a.end page) (Some a.prot) q ≡ cond (ltb q page) (page_map (a ∷ areas) q) None
first_piece a areas page runs reach q = go (cases_lt q page)
  where
    go : (q < page) ⊎ (page ≤ q) → changed (page_map []) a.start (min a.end page) (Some a.prot) q ≡ cond (ltb q page) (page_map (a ∷ areas) q) None
    go (inl low) =
        let none = page_map-low a areas runs q (omega arith) in
        grind (arith, nat_tests)
    go (inr high) = grind (arith, nat_tests)

-- what the last area leaves from a page on that it begins by
pub last_piece : (before areas front : List Area) (a : Area) (page : ℕ) → areas ≡ front ++ a ∷ [] → AreRuns areas → a.start ≤ page → ((q : ℕ) → page ≤ q → page_map before q ≡ None) → (q : ℕ) → changed (page_map before) (max a.start page) a.end (Some a.prot) q ≡ cond (ltb q page) (page_map before q) (page_map areas q)
last_piece before areas front a page is runs begun behind q = go (cases_lt q page)
  where
    go : (q < page) ⊎ (page ≤ q) → changed (page_map before) (max a.start page) a.end (Some a.prot) q ≡ cond (ltb q page) (page_map before q) (page_map areas q)
    go (inl low) = grind (arith, nat_tests)
    go (inr high) =
        let none = behind q high in
        let front' = page_map-front front a [] (rw is at runs) q (omega arith) in
        let whole : page_map areas q ≡ page_map (a ∷ []) q = ap (λ xs. page_map xs q) is ∙ page_map-append front (a ∷ []) q ∙ ap (λ o. option_or o (page_map (a ∷ []) q)) front' in
        rw whole (grind (arith, nat_tests))

module _ (areas ps : List Area) (place count start end : ℕ) (prot : Option ℕ) (space : IsSpace areas) (some : start < end) (ended : AllByRecursion (λ a. a.end < start) (take place areas)) (others : AllByRecursion (λ a. end < a.start) (drop count (drop place areas))) (are : AreRuns ps) (pages : (q : ℕ) → page_map ps q ≡ changed (page_map (take count (drop place areas))) start end prot q) where
  -- the areas after a change
  abbrev spliced : List Area
  spliced = take place areas ++ ps ++ drop (place + count) areas

  regroup : take place areas ++ (ps ++ drop count (drop place areas)) ≡ take place areas ++ ps ++ drop (place + count) areas
  regroup =
      ap (λ zs. take place areas ++ (ps ++ zs)) (drop-drop count place areas) ∙ sym (append_assoc (take place areas) ps (drop (place + count) areas))

  whole : take place areas ++ (take count (drop place areas) ++ drop count (drop place areas)) ≡ areas
  whole =
      ap (λ zs. take place areas ++ zs) (take-append-drop count (drop place areas)) ∙ take-append-drop place areas

  -- they are runs
  pub AreRuns-changed : AreRuns (take place areas ++ ps ++ drop (place + count) areas)
  AreRuns-changed =
      rw regroup at (AreRuns-spliced (take place areas) (take count (drop place areas)) (drop count (drop place areas)) ps start end prot some ended others pages (rw (← whole) at space.runs) are)

  -- with the changed pages
  pub page_map-changed : page_map (take place areas ++ ps ++ drop (place + count) areas) ≡ changed (page_map areas) start end prot
  page_map-changed = fun_ext at_page
    where
      at_page : (q : ℕ) → page_map (take place areas ++ ps ++ drop (place + count) areas) q ≡ changed (page_map areas) start end prot q
      at_page q =
          ap (λ xs. page_map xs q) (sym regroup) ∙ page_map-spliced (take place areas) (take count (drop place areas)) (drop count (drop place areas)) ps start end prot some ended others pages q ∙ ap (λ xs. changed (page_map xs) start end prot q) whole

  -- how many runs these have
  pub runs-changed : length (runs (changed (page_map areas) start end prot)) ≡ length (take place areas ++ ps ++ drop (place + count) areas)
  runs-changed =
      ap (λ m. length (runs m)) (sym page_map-changed) ∙ ap length (runs-page_map (take place areas ++ ps ++ drop (place + count) areas) AreRuns-changed)

-- how many areas there are with pieces in the place of some
pub length-spliced : (areas ps : List Area) (place count : ℕ) → place + count ≤ length areas → length (take place areas ++ ps ++ drop (place + count) areas) ≡ length areas - count + length ps
length-spliced areas ps place count within = simp (length-append, length-take, length-drop) (omega arith)

-- elements that are written over all
pub refilled : (xs ws : List Area) → length ws ≡ length xs → refill (length xs) xs ws ≡ ws
refilled xs ws same = take_at ws (drop (length ws) xs) (length xs) same

-- the elements behind the front are moved behind the others, and cut off
moved_off : (front rest : List Area) (n : ℕ) → n ≤ length rest → take (length (front ++ rest) - n) (take (length front) (front ++ rest) ++ drop (length front + n) (front ++ rest) ++ take n (drop (length front) (front ++ rest))) ≡ front ++ drop n rest
moved_off front rest n within =
    rw (take-append_seam front rest, drop-append-add front rest n) (take_at (front ++ drop n rest) _ _ (simp (length-append, length-drop) (omega arith)))

-- one more element is put behind those that were put behind the front
pub inserted_more : (front rest more xs : List Area) (i n : ℕ) (d : Area) → i < length more → n ≡ length front + i → xs ≡ front ++ (take i more ++ rest) → insert xs n (get_or more i d) ≡ front ++ (take (i + 1) more ++ rest)
inserted_more front rest more xs i n d below place is =
    let y = get_or more i d in
    let pre = front ++ take i more in
    let whole : xs ≡ pre ++ rest = is ∙ sym (append_assoc front (take i more) rest) in
    let many : length pre ≡ n = simp (length-append, length-take) (omega arith) in
    ap (λ ys. insert ys n y) whole ∙ rw (take_at pre rest n many, drop_at pre rest n many) (append_assoc front (take i more) (y ∷ rest) ∙ ap (λ ys. front ++ ys) (sym (append_assoc (take i more) (y ∷ []) rest) ∙ ap (λ ys. ys ++ rest) (sym (take_more more i d below))))

-- pieces that aren't more than the areas in whose place they go
pub spliced_fewer : (old pieces over more one two : List Area) (place count n : ℕ) → place + count ≤ length old → pieces ≡ over ++ more → length more ≡ 0 → length over + n ≡ count → one ≡ take place old ++ over ++ drop (place + length over) old → two ≡ take (place + length over) one ++ drop (place + length over + n) one ++ take n (drop (place + length over) one) → take (length one - n) two ≡ take place old ++ pieces ++ drop (place + count) old
spliced_fewer old pieces over [] one two place count n within is none left first second =
    let front = take place old ++ over in
    let rest = drop (place + length over) old in
    let many : length front ≡ place + length over = simp (length-append, length-take) (omega arith) in
    let enough : n ≤ length rest = simp length-drop (omega arith) in
    let off = rw many at (moved_off front rest n enough) in
    let done = drop-drop n (place + length over) old in
    let total : place + length over + n ≡ place + count = omega arith in
    rw (second, first) (off ∙ ap (λ zs. take place old ++ over ++ zs) (done ∙ ap (λ k. drop k old) total) ∙ ap (λ xs. take place old ++ xs ++ drop (place + count) old) (sym (is ∙ append-nil over)))
spliced_fewer old pieces over (m ∷ more) one two place count n within is none left first second = absurd (omega arith)
