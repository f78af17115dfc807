-- Ranges of pages that go to another place.
use Rattle.std.proofs.Common.{◌≡◌, ℕ, ◌+◌, ◌-◌, min, max, ◌<◌, ◌≤◌, List, [], ◌∷◌, ◌++◌, length, take, drop, get_or, refl, Option, None, Some, ◌⊎◌, inl, inr, sym, ap, subst, ◌∙◌, arith}
use Rattle.std.specs.Prelude.{true, Result, Ok, Err, IfOk, IfErr, OnErr}
use Rattle.std.specs.List.{AllByRecursion, slice_get}
use Rattle.std.specs.Option.{option_or}
use Rattle.std.proofs.lemmas.List.{append_assoc, take-append-drop, drop-drop, take_more, get_or-drop, length-drop}
use Rattle.std.proofs.lemmas.Option.{slice_get_within, get_or_from_slice_get}
use Rattle.std.proofs.Math.Path.{fun_ext}
use Rattle.std.proofs.lemmas.Bool.Decides.{nat_tests}
use Rattle.std.proofs.lemmas.Bool.{cases_lt}
use Rattle.word_bits.specs.declared.area.Area.{Area}
use Rattle.word_bits.specs.PageMaps.{PageMap, no_pages, runs}
use Rattle.vma_map.specs.Runs.{page_map, AreRuns, spliced}
use Rattle.vma_map.specs.Laws.PageRun.{runs-page_map}
use Rattle.word_bits.specs.declared.reply.Errno.{Errno}
use Rattle.word_bits.specs.declared.reply.Errno.TheVariants.{NoMem}
use Rattle.vma_map.specs.Spaces.{changed, is_mapped}
use Rattle.vma_map.specs.Laws.Area.{changed-in, changed-below, changed-above}
use Rattle.vma_map.specs.Remaps.{AreApart, IsOutside, IsMoved, IsRemapAnswer, with_moved}
use Rattle.vma_map.proofs.RangeLemmas.{no_area, page_map-append, page_map-front, page_map-push, runs_at}
use Rattle.vma_map.proofs.CutLemmas.{AreRuns-rest, none_from, none_to, ends_by}
use Rattle.vma_map.proofs.SpliceLemmas.{AreRuns-before, AreRuns-behind}

-- a page in front of the moved ones
pub with_moved-below : (m others : PageMap) (from end to page : ℕ) → page < to → with_moved m others from end to page ≡ m page
with_moved-below m others from end to page low = grind (arith, nat_tests)

-- one of them
pub with_moved-in : (m others : PageMap) (from end to page : ℕ) → to ≤ page → page < to + (end - from) → with_moved m others from end to page ≡ others (from + (page - to))
with_moved-in m others from end to page low high = grind (arith, nat_tests)

-- one behind them
pub with_moved-past : (m others : PageMap) (from end to page : ℕ) → to + (end - from) ≤ page → with_moved m others from end to page ≡ None
with_moved-past m others from end to page past = grind (arith, nat_tests)

-- where a page of a range goes, and one outside of it goes to the nearer end
abbrev pub place_of : (from end to page : ℕ) → ℕ
place_of from end to page = max from (min page end) - from + to

module _ (areas : List Area) (i : ℕ) (d : Area) (m next : PageMap) (from end to : ℕ) (below : i < length areas) (are : AreRuns areas) (order : from ≤ end) (pages : (q : ℕ) → next q ≡ with_moved m (page_map (take i areas)) from end to q) where
  abbrev a : Area
  a = get_or areas i d

  -- the areas so far have no page of the next one, or behind it
  none : (page : ℕ) → (get_or areas i d).start ≤ page → page_map (take i areas) page ≡ None
  none page above = page_map-front (take i areas) (get_or areas i d) (drop (i + 1) areas) (runs_at areas i d below are) page above

  -- nor does the list so far
  pub none-moved : place_of from end to (get_or areas i d).start < place_of from end to (get_or areas i d).end → (q : ℕ) → place_of from end to (get_or areas i d).start ≤ q → next q ≡ None
  none-moved some q above = pages q ∙ go (cases_lt q (to + (end - from)))
    where
      go : (q < to + (end - from)) ⊎ (to + (end - from) ≤ q) → with_moved m (page_map (take i areas)) from end to q ≡ None
      go (inl inside) =
          with_moved-in m (page_map (take i areas)) from end to q (omega (arith, above)) inside ∙ none (from + (q - to)) (omega (arith, some, above, inside))
      go (inr past) = with_moved-past m (page_map (take i areas)) from end to q past

  more : (page : ℕ) → page_map (take (i + 1) areas) page ≡ changed (page_map (take i areas)) (get_or areas i d).start (get_or areas i d).end (Some (get_or areas i d).prot) page
  more page = ap (λ xs. page_map xs page) (take_more areas i d below) ∙ page_map-push (take i areas) (get_or areas i d) none page

  -- with the next area's piece the list has that area's pages too
  pub more-moved : (q : ℕ) → changed next (place_of from end to (get_or areas i d).start) (place_of from end to (get_or areas i d).end) (Some (get_or areas i d).prot) q ≡ with_moved m (page_map (take (i + 1) areas)) from end to q
  more-moved q = go (cases_lt q to) (cases_lt q (to + (end - from)))
    where
      first : ℕ
      first = place_of from end to (get_or areas i d).start

      last : ℕ
      last = place_of from end to (get_or areas i d).end

      page : ℕ
      page = from + (q - to)

      same : to ≤ q → q < to + (end - from) → (page < (get_or areas i d).start) ⊎ ((get_or areas i d).start ≤ page) → (page < (get_or areas i d).end) ⊎ ((get_or areas i d).end ≤ page) → changed next first last (Some (get_or areas i d).prot) q ≡ changed (page_map (take i areas)) (get_or areas i d).start (get_or areas i d).end (Some (get_or areas i d).prot) page
      same low high (inl front) side =
          changed-below next first last (Some (get_or areas i d).prot) q (omega (arith, low, high, front)) ∙ pages q ∙ with_moved-in m (page_map (take i areas)) from end to q low high ∙ sym (changed-below (page_map (take i areas)) (get_or areas i d).start (get_or areas i d).end (Some (get_or areas i d).prot) page front)
      same low high (inr from') (inl inside) =
          changed-in next first last (Some (get_or areas i d).prot) q (omega (arith, low, high, from', order)) (omega (arith, low, high, inside, order)) ∙ sym (changed-in (page_map (take i areas)) (get_or areas i d).start (get_or areas i d).end (Some (get_or areas i d).prot) page from' inside)
      same low high (inr from') (inr over) =
          changed-above next first last (Some (get_or areas i d).prot) q (omega (arith, low, high, over, order)) ∙ pages q ∙ with_moved-in m (page_map (take i areas)) from end to q low high ∙ sym (changed-above (page_map (take i areas)) (get_or areas i d).start (get_or areas i d).end (Some (get_or areas i d).prot) page over)

      go : (q < to) ⊎ (to ≤ q) → (q < to + (end - from)) ⊎ (to + (end - from) ≤ q) → changed next first last (Some (get_or areas i d).prot) q ≡ with_moved m (page_map (take (i + 1) areas)) from end to q
      go (inl low) side =
          changed-below next first last (Some (get_or areas i d).prot) q (omega (arith, low)) ∙ pages q ∙ with_moved-below m (page_map (take i areas)) from end to q low ∙ sym (with_moved-below m (page_map (take (i + 1) areas)) from end to q low)
      go (inr low) (inl high) =
          same low high (cases_lt page (get_or areas i d).start) (cases_lt page (get_or areas i d).end) ∙ sym (more page) ∙ sym (with_moved-in m (page_map (take (i + 1) areas)) from end to q low high)
      go (inr low) (inr past) =
          changed-above next first last (Some (get_or areas i d).prot) q (omega (arith, past, order)) ∙ pages q ∙ with_moved-past m (page_map (take i areas)) from end to q past ∙ sym (with_moved-past m (page_map (take (i + 1) areas)) from end to q past)

module _ (m n1 n2 n3 n4 : PageMap) (start len to : ℕ) (past : (q : ℕ) → 1048576 ≤ q → m q ≡ None) where
  -- four parts, of which the second is the range that goes down
  pub IsMoved-down : to + len ≤ start → start + len ≤ 1048576 → ((q : ℕ) → n1 q ≡ with_moved no_pages m 0 to 0 q) → ((q : ℕ) → n2 q ≡ with_moved n1 m start (start + len) to q) → ((q : ℕ) → n3 q ≡ with_moved n2 m (to + len) start (to + len) q) → ((q : ℕ) → n4 q ≡ with_moved n3 m (start + len) 1048576 (start + len) q) → IsMoved m start len to n4
  IsMoved-down down within e1 e2 e3 e4 = record {
    target = λ i below. low (to + i) (omega (arith, down, below)) ∙ with_moved-below n2 m (to + len) start (to + len) (to + i) (omega (arith, below)) ∙ e2 (to + i) ∙ with_moved-in n1 m start (start + len) to (to + i) (omega arith) (omega (arith, below)) ∙ ap m (omega arith);
    source = λ i below. low (start + i) (omega (arith, below)) ∙ with_moved-past n2 m (to + len) start (to + len) (start + i) (omega (arith, down));
    others = λ page s t. go page s t (cases_lt page 1048576);
  }
    where
      low : (q : ℕ) → q < start + len → n4 q ≡ with_moved n2 m (to + len) start (to + len) q
      low q below = e4 q ∙ with_moved-below n3 m (start + len) 1048576 (start + len) q below ∙ e3 q

      go : (page : ℕ) → IsOutside start len page → IsOutside to len page → (page < 1048576) ⊎ (1048576 ≤ page) → n4 page ≡ m page
      go page (inl before) (inl first) side =
          low page (omega (arith, before)) ∙ with_moved-below n2 m (to + len) start (to + len) page (omega (arith, first)) ∙ e2 page ∙ with_moved-below n1 m start (start + len) to page first ∙ e1 page ∙ with_moved-in no_pages m 0 to 0 page (omega arith) (omega (arith, first)) ∙ ap m (omega arith)
      go page (inl before) (inr middle) side =
          low page (omega (arith, before)) ∙ with_moved-in n2 m (to + len) start (to + len) page middle (omega (arith, before, middle)) ∙ ap m (omega (arith, middle))
      go page (inr behind) t (inl inside) =
          e4 page ∙ with_moved-in n3 m (start + len) 1048576 (start + len) page behind (omega (arith, inside, within)) ∙ ap m (omega (arith, behind))
      go page (inr behind) t (inr over) =
          e4 page ∙ with_moved-past n3 m (start + len) 1048576 (start + len) page (omega (arith, over, within)) ∙ sym (past page over)

  -- or the third, that goes up
  pub IsMoved-up : start + len ≤ to → to + len ≤ 1048576 → ((q : ℕ) → n1 q ≡ with_moved no_pages m 0 start 0 q) → ((q : ℕ) → n2 q ≡ with_moved n1 m (start + len) to (start + len) q) → ((q : ℕ) → n3 q ≡ with_moved n2 m start (start + len) to q) → ((q : ℕ) → n4 q ≡ with_moved n3 m (to + len) 1048576 (to + len) q) → IsMoved m start len to n4
  IsMoved-up up within e1 e2 e3 e4 = record {
    target = λ i below. low (to + i) (omega (arith, below)) ∙ with_moved-in n2 m start (start + len) to (to + i) (omega arith) (omega (arith, below)) ∙ ap m (omega arith);
    source = λ i below. front (start + i) (omega (arith, up, below)) ∙ with_moved-below n1 m (start + len) to (start + len) (start + i) (omega (arith, below)) ∙ e1 (start + i) ∙ with_moved-past no_pages m 0 start 0 (start + i) (omega arith);
    others = λ page s t. go page s t (cases_lt page 1048576);
  }
    where
      low : (q : ℕ) → q < to + len → n4 q ≡ with_moved n2 m start (start + len) to q
      low q below = e4 q ∙ with_moved-below n3 m (to + len) 1048576 (to + len) q below ∙ e3 q

      front : (q : ℕ) → q < to → n4 q ≡ with_moved n1 m (start + len) to (start + len) q
      front q below = low q (omega (arith, below)) ∙ with_moved-below n2 m start (start + len) to q below ∙ e2 q

      go : (page : ℕ) → IsOutside start len page → IsOutside to len page → (page < 1048576) ⊎ (1048576 ≤ page) → n4 page ≡ m page
      go page (inl first) (inl before) side =
          front page before ∙ with_moved-below n1 m (start + len) to (start + len) page (omega (arith, first)) ∙ e1 page ∙ with_moved-in no_pages m 0 start 0 page (omega arith) (omega (arith, first)) ∙ ap m (omega arith)
      go page (inr middle) (inl before) side =
          front page before ∙ with_moved-in n1 m (start + len) to (start + len) page middle (omega (arith, before, middle)) ∙ ap m (omega (arith, middle))
      go page s (inr behind) (inl inside) =
          e4 page ∙ with_moved-in n3 m (to + len) 1048576 (to + len) page behind (omega (arith, inside, within)) ∙ ap m (omega (arith, behind))
      go page s (inr behind) (inr over) =
          e4 page ∙ with_moved-past n3 m (to + len) 1048576 (to + len) page (omega (arith, over, within)) ∙ sym (past page over)

-- pages go to one place
pub IsMoved-unique : (m f g : PageMap) (start len to : ℕ) → IsMoved m start len to f → IsMoved m start len to g → f ≡ g
IsMoved-unique m f g start len to is_f is_g = fun_ext (λ page. go page (cases_lt page start) (cases_lt page (start + len)) (cases_lt page to) (cases_lt page (to + len)))
  where
    moved : (page : ℕ) → to ≤ page → page < to + len → f page ≡ g page
    moved page low high =
        let at : page ≡ to + (page - to) = omega (arith, low) in
        ap f at ∙ is_f.target (page - to) (omega (arith, low, high)) ∙ sym (is_g.target (page - to) (omega (arith, low, high))) ∙ ap g (sym at)

    left : (page : ℕ) → start ≤ page → page < start + len → f page ≡ g page
    left page low high =
        let at : page ≡ start + (page - start) = omega (arith, low) in
        ap f at ∙ is_f.source (page - start) (omega (arith, low, high)) ∙ sym (is_g.source (page - start) (omega (arith, low, high))) ∙ ap g (sym at)

    other : (page : ℕ) → IsOutside start len page → IsOutside to len page → f page ≡ g page
    other page s t = is_f.others page s t ∙ sym (is_g.others page s t)

    go : (page : ℕ) → (page < start) ⊎ (start ≤ page) → (page < start + len) ⊎ (start + len ≤ page) → (page < to) ⊎ (to ≤ page) → (page < to + len) ⊎ (to + len ≤ page) → f page ≡ g page
    go page (inr low) (inl high) t t' = left page low high
    go page s s' (inr low) (inl high) = moved page low high
    go page (inl before) s' (inl first) t' = other page (inl before) (inl first)
    go page (inl before) s' t (inr last) = other page (inl before) (inr last)
    go page s (inr behind) (inl first) t' = other page (inr behind) (inl first)
    go page s (inr behind) t (inr last) = other page (inr behind) (inr last)

-- all lists of the moved pages are as long as this one
pub many-moved : (m : PageMap) (ps : List Area) (start len to : ℕ) → AreRuns ps → IsMoved m start len to (page_map ps) → 256 < length ps → (next : PageMap) → IsMoved m start len to next → 256 < length (runs next)
many-moved m ps start len to are is many next is' =
    let same : length (runs next) ≡ length ps = ap (λ n. length (runs n)) (IsMoved-unique m next (page_map ps) start len to is' is) ∙ ap length (runs-page_map ps are) in
    omega (arith, same, many)

module _ (xs ys zs ps : List Area) (start len to low high : ℕ) (ends : AllByRecursion (λ a. a.end < low) xs) (starts : AllByRecursion (λ a. high < a.start) zs) (low_start : low ≤ start) (low_to : low ≤ to) (start_high : start + len ≤ high) (to_high : to + len ≤ high) (is : IsMoved (page_map ys) start len to (page_map ps)) where
  -- runs of which those from one page to another are replaced by what a move makes of them
  AreRuns-moved : AreRuns (xs ++ (ys ++ zs)) → AreRuns ps → AreRuns (xs ++ (ps ++ zs))
  AreRuns-moved runs are =
      AreRuns-before xs (ys ++ zs) (ps ++ zs) low ends runs (AreRuns-behind ys zs ps high starts (AreRuns-rest xs (ys ++ zs) runs) are (λ q above. is.others q (inr (omega (arith, above, start_high))) (inr (omega (arith, above, to_high))))) (λ q below. page_map-append ps zs q ∙ ap (λ o. option_or o (page_map zs q)) (is.others q (inl (omega (arith, below, low_start))) (inl (omega (arith, below, low_to)))) ∙ sym (page_map-append ys zs q))

  -- between the two pages only they tell
  between : (areas : List Area) (q : ℕ) → low ≤ q → q < high → page_map (xs ++ (areas ++ zs)) q ≡ page_map areas q
  between areas q from below =
      page_map-append xs (areas ++ zs) q ∙ ap (λ o. option_or o (page_map (areas ++ zs) q)) (none_from xs low (ends_by xs low ends) q from) ∙ page_map-append areas zs q ∙ ap (λ o. option_or (page_map areas q) o) (none_to zs high starts q (omega (arith, below))) ∙ alone (page_map areas q)
    where
      alone : (o : Option ℕ) → option_or o None ≡ o
      alone None = refl
      alone (Some p) = refl

  -- the whole is moved as they are
  IsMoved-within : IsMoved (page_map (xs ++ (ys ++ zs))) start len to (page_map (xs ++ (ps ++ zs)))
  IsMoved-within = record {
    target = λ i below. between ps (to + i) (omega (arith, low_to)) (omega (arith, below, to_high)) ∙ is.target i below ∙ sym (between ys (start + i) (omega (arith, low_start)) (omega (arith, below, start_high)));
    source = λ i below. between ps (start + i) (omega (arith, low_start)) (omega (arith, below, start_high)) ∙ is.source i below;
    others = λ q s t. whole ps q ∙ ap (λ o. option_or (page_map xs q) (option_or o (page_map zs q))) (is.others q s t) ∙ sym (whole ys q);
  }
    where
      whole : (areas : List Area) (q : ℕ) → page_map (xs ++ (areas ++ zs)) q ≡ option_or (page_map xs q) (option_or (page_map areas q) (page_map zs q))
      whole areas q = page_map-append xs (areas ++ zs) q ∙ ap (λ o. option_or (page_map xs q) o) (page_map-append areas zs q)

module _ (areas ps : List Area) (at count start len to low high : ℕ) (ended : AllByRecursion (λ a. a.end < low) (take at areas)) (others : AllByRecursion (λ a. high < a.start) (drop count (drop at areas))) (low_start : low ≤ start) (low_to : low ≤ to) (start_high : start + len ≤ high) (to_high : to + len ≤ high) (is : IsMoved (page_map (take count (drop at areas))) start len to (page_map ps)) where
  regroup : take at areas ++ (ps ++ drop count (drop at areas)) ≡ spliced at count ps areas
  regroup =
      ap (λ zs. take at areas ++ (ps ++ zs)) (drop-drop count at areas) ∙ sym (append_assoc (take at areas) ps (drop (at + count) areas))

  whole : take at areas ++ (take count (drop at areas) ++ drop count (drop at areas)) ≡ areas
  whole =
      ap (λ zs. take at areas ++ zs) (take-append-drop count (drop at areas)) ∙ take-append-drop at areas

  -- areas of which some are replaced by what a move makes of them
  pub AreRuns-replaced : AreRuns areas → AreRuns ps → AreRuns (spliced at count ps areas)
  AreRuns-replaced before are =
      subst AreRuns regroup (AreRuns-moved (take at areas) (take count (drop at areas)) (drop count (drop at areas)) ps start len to low high ended others low_start low_to start_high to_high is (subst AreRuns (sym whole) before) are)

  -- have their pages moved
  pub IsMoved-spliced : IsMoved (page_map areas) start len to (page_map (spliced at count ps areas))
  IsMoved-spliced =
      subst (λ (xs : List Area). IsMoved (page_map areas) start len to (page_map xs)) regroup (subst (λ (xs : List Area). IsMoved (page_map xs) start len to (page_map (take at areas ++ (ps ++ drop count (drop at areas))))) whole (IsMoved-within (take at areas) (take count (drop at areas)) (drop count (drop at areas)) ps start len to low high ended others low_start low_to start_high to_high is))

-- where the ranges are apart and mapped, too many areas are the only cause left
pub answered : (m : PageMap) (start len to : ℕ) (r : Result ℕ Errno) → AreApart start len to → is_mapped m start len ≡ true → IfOk r (λ page. page ≡ to) → IfErr r (λ error. error ≡ NoMem) → OnErr r ((next : PageMap) → IsMoved m start len to next → 256 < length (runs next)) → IsRemapAnswer m start len to r
answered m start len to (Ok page) apart mapped ok error many = (apart, mapped, ok)
answered m start len to (Err e) apart mapped ok error many =
    subst (λ (x : Errno). IsRemapAnswer m start len to (Err x)) (sym error) (apart, mapped, many)

-- one more area is read
pub read-more : (areas now xs : List Area) (at i : ℕ) (a : Area) → now ≡ areas → slice_get now (at + i) ≡ Some a → xs ≡ take i (drop at areas) → xs ++ a ∷ [] ≡ take (i + 1) (drop at areas)
read-more areas now xs at i a same is so_far =
    let here : slice_get areas (at + i) ≡ Some a = ap (λ (ys : List Area). slice_get ys (at + i)) (sym same) ∙ is in
    let below = slice_get_within areas (at + i) a here in
    let inside : i < length (drop at areas) = simp length-drop (omega (arith, below)) in
    let next = take_more (drop at areas) i no_area inside ∙ ap (λ (b : Area). take i (drop at areas) ++ b ∷ []) (get_or-drop at areas i no_area ∙ get_or_from_slice_get areas (at + i) a no_area here) in
    ap (λ (ys : List Area). ys ++ a ∷ []) so_far ∙ sym next
