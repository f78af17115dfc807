-- The first and the last of areas in order.
use Rattle.std.proofs.Common.{◌≡◌, ℕ, zero, suc, ◌+◌, ◌-◌, ◌<◌, ◌≤◌, List, [], ◌∷◌, length, take, drop, get_or, Option, Some, ◌&&◌, cond, leb, ltb, ◌⊎◌, inl, inr, refl, sym, ap, ◌∙◌, arith}
use Rattle.std.specs.List.{AllByRecursion, slice_get}
use Rattle.std.proofs.lemmas.Bool.{cases_lt}
use Rattle.std.proofs.lemmas.Option.{get_or_from_slice_get}
use Rattle.word_bits.specs.declared.area.Area.{Area}
use Rattle.word_bits.specs.AreaWord.{IsArea}
use Rattle.vma_map.specs.Runs.{page_map, AreRuns, last_of, ends_of}
use Rattle.vma_map.specs.Spaces.{changed}
use Rattle.vma_map.specs.Laws.Area.{changed-in, changed-below, changed-above, page_map-behind, page_map-low, AreRuns-head}
use Rattle.vma_map.proofs.RangeLemmas.{no_area}

-- the last area begins where the first one ends, or behind it
last-from : (a b : Area) (areas : List Area) → AreRuns (a ∷ (b ∷ areas)) → a.end ≤ (last_of b areas).start
last-from a b [] runs = runs.1.ascend
last-from a b (c ∷ areas) runs =
    let rest = last-from b c areas runs.2 in
    let ascend = runs.1.ascend in
    let some = (AreRuns-head b (c ∷ areas) runs.2).some in
    omega (arith, rest, ascend, some)

last-is : (b : Area) (areas : List Area) → AreRuns (b ∷ areas) → IsArea (last_of b areas)
last-is b [] runs = runs
last-is b (c ∷ areas) runs = last-is c areas runs.2

pub AreRuns-ends : (areas : List Area) → AreRuns areas → AreRuns (ends_of areas)
AreRuns-ends [] runs = runs
AreRuns-ends (a ∷ []) runs = runs
AreRuns-ends (a ∷ (b ∷ [])) runs = runs
AreRuns-ends (a ∷ (b ∷ (c ∷ areas))) runs =
    let ascend = runs.1.ascend in
    let some = (AreRuns-head b (c ∷ areas) runs.2).some in
    let from = last-from b c areas runs.2 in
    (runs.0, record { ascend = omega (arith, ascend, some, from); differ = λ touch same. absurd (omega (arith, ascend, some, from, touch)) }, last-is c areas runs.2.2)

last-holds : (P : Area → Type 0) (b : Area) (areas : List Area) → AllByRecursion P (b ∷ areas) → P (last_of b areas)
last-holds P b [] all = all.0
last-holds P b (c ∷ areas) all = last-holds P c areas all.1

pub all-ends : (P : Area → Type 0) (areas : List Area) → AllByRecursion P areas → AllByRecursion P (ends_of areas)
all-ends P [] all = tt
all-ends P (a ∷ []) all = all
all-ends P (a ∷ (b ∷ areas)) all = (all.0, (last-holds P b areas all.1, tt))

-- from where the last area begins, only it has pages
last-pages : (b : Area) (areas : List Area) (q : ℕ) → AreRuns (b ∷ areas) → (last_of b areas).start ≤ q → page_map (b ∷ areas) q ≡ page_map (last_of b areas ∷ []) q
last-pages b [] q runs from = refl
last-pages b (c ∷ areas) q runs from =
    let ends = last-from b c areas runs in
    page_map-behind b (c ∷ areas) q (omega (arith, ends, from)) ∙ last-pages c areas q runs.2 from

-- what a change makes of areas that meet its range, the first and the last of them tell
pub changed-ends : (areas : List Area) (start end : ℕ) (prot : Option ℕ) → AreRuns areas → AllByRecursion (λ a. start ≤ a.end) areas → AllByRecursion (λ a. a.start ≤ end) areas → (q : ℕ) → changed (page_map (ends_of areas)) start end prot q ≡ changed (page_map areas) start end prot q
changed-ends [] start end prot runs ends starts q = refl
changed-ends (a ∷ []) start end prot runs ends starts q = refl
changed-ends (a ∷ (b ∷ areas)) start end prot runs ends starts q = go (cases_lt q start) (cases_lt q end)
  where
    two : List Area
    two = a ∷ (last_of b areas ∷ [])

    whole : List Area
    whole = a ∷ (b ∷ areas)

    are : AreRuns (a ∷ (last_of b areas ∷ []))
    are = AreRuns-ends (a ∷ (b ∷ areas)) runs

    last : (last_of b areas).start ≤ end
    last = last-holds (λ (c : Area). c.start ≤ end) b areas starts.1

    first : page_map (last_of b areas ∷ []) q ≡ page_map (b ∷ areas) q → page_map (a ∷ (last_of b areas ∷ [])) q ≡ page_map (a ∷ (b ∷ areas)) q
    first same = ap (λ o. cond (leb a.start q && ltb q a.end) (Some a.prot) o) same

    go : (q < start) ⊎ (start ≤ q) → (q < end) ⊎ (end ≤ q) → changed (page_map (a ∷ (last_of b areas ∷ []))) start end prot q ≡ changed (page_map (a ∷ (b ∷ areas))) start end prot q
    go (inl low) side =
        let reach = ends.0 in
        let under : q < a.end = omega (arith, low, reach) in
        changed-below (page_map (a ∷ (last_of b areas ∷ []))) start end prot q low ∙ first (page_map-low a (last_of b areas ∷ []) are q under ∙ sym (page_map-low a (b ∷ areas) runs q under)) ∙ sym (changed-below (page_map (a ∷ (b ∷ areas))) start end prot q low)
    go (inr from) (inl inside) =
        changed-in (page_map (a ∷ (last_of b areas ∷ []))) start end prot q from inside ∙ sym (changed-in (page_map (a ∷ (b ∷ areas))) start end prot q from inside)
    go (inr from) (inr over) =
        changed-above (page_map (a ∷ (last_of b areas ∷ []))) start end prot q over ∙ first (sym (last-pages b areas q runs.2 (omega (arith, last, over)))) ∙ sym (changed-above (page_map (a ∷ (b ∷ areas))) start end prot q over)

-- the last of so many areas
last-at : (b : Area) (areas : List Area) (n : ℕ) (d : Area) → n ≤ length areas → last_of b (take n areas) ≡ get_or (b ∷ areas) n d
last-at b areas zero d within = refl
last-at b [] (suc n) d within = absurd (omega (arith, within))
last-at b (c ∷ areas) (suc n) d within = last-at c areas n d (omega (arith, within))

pub ends-one : (areas : List Area) (at count : ℕ) (a : Area) → count ≡ 1 → slice_get areas at ≡ Some a → ends_of (take count (drop at areas)) ≡ a ∷ []
ends-one areas at count a one is = ap (λ n. ends_of (take n (drop at areas))) one ∙ go areas at is
  where
    go : (areas : List Area) (at : ℕ) → slice_get areas at ≡ Some a → ends_of (take 1 (drop at areas)) ≡ a ∷ []
    go [] at is = absurd cc
    go (b ∷ areas) zero is = let same : b ≡ a = cc in ap (λ x. x ∷ []) same
    go (b ∷ areas) (suc at) is = go areas at is

pub ends-two : (areas : List Area) (at count : ℕ) (a b : Area) → 1 < count → at + count ≤ length areas → slice_get areas at ≡ Some a → slice_get areas (at + count - 1) ≡ Some b → ends_of (take count (drop at areas)) ≡ a ∷ (b ∷ [])
ends-two areas at count a b some within is is' =
    let more : count ≡ suc (suc (count - 2)) = omega (arith, some) in
    ap (λ n. ends_of (take n (drop at areas))) more ∙ go areas at (count - 2) (omega (arith, some, within)) is (ap (λ n. slice_get areas n) (let e : at + suc (suc (count - 2)) - 1 ≡ at + count - 1 = omega (arith, some) in e) ∙ is')
  where
    go : (areas : List Area) (at n : ℕ) → at + suc (suc n) ≤ length areas → slice_get areas at ≡ Some a → slice_get areas (at + suc (suc n) - 1) ≡ Some b → ends_of (take (suc (suc n)) (drop at areas)) ≡ a ∷ (b ∷ [])
    go [] at n within is is' = absurd cc
    go (c ∷ []) zero n within is is' = absurd (omega (arith, within))
    go (c ∷ (d ∷ areas)) zero n within is is' =
        let same : c ≡ a = cc in
        let far : slice_get (c ∷ (d ∷ areas)) (suc n) ≡ Some b = ap (slice_get (c ∷ (d ∷ areas))) (let e : suc n ≡ 0 + suc (suc n) - 1 = omega arith in e) ∙ is' in
        let last = last-at d areas n no_area (omega (arith, within)) ∙ get_or_from_slice_get (d ∷ areas) n b no_area far in
        λ i. same i ∷ (last i ∷ [])
    go (c ∷ areas) (suc at) n within is is' = go areas at n (omega (arith, within)) is (ap (slice_get (c ∷ areas)) (let e : suc (at + suc (suc n) - 1) ≡ suc at + suc (suc n) - 1 = omega arith in e) ∙ is')
