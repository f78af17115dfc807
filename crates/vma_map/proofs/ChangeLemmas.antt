-- What a change of a range makes of the areas, where a search tells which of them meet it.
use Rattle.std.proofs.Common.{◌≡◌, ℕ, zero, suc, ◌+◌, ◌-◌, ◌<◌, ◌≤◌, List, [], ◌∷◌, length, take, drop, Option, sym, ap, ◌∙◌, subst, arith}
use Rattle.std.specs.List.{AllByRecursion}
use Rattle.std.proofs.lemmas.List.{drop-take, drop-drop}
use Rattle.word_bits.specs.declared.area.Area.{Area}
use Rattle.word_bits.specs.PageMaps.{runs}
use Rattle.vma_map.specs.Runs.{page_map, AreRuns, IsSpace, spliced, ends_of}
use Rattle.vma_map.specs.Spaces.{changed}
use Rattle.vma_map.specs.Laws.Area.{AreRuns-head, AreRuns-tail}
use Rattle.vma_map.proofs.CutLemmas.{all_take}
use Rattle.vma_map.proofs.WordLemmas.{AreRuns-take}
use Rattle.vma_map.proofs.SearchLemmas.{AreRuns-drop}
use Rattle.vma_map.proofs.EndsLemmas.{AreRuns-ends, all-ends, changed-ends}
use Rattle.vma_map.proofs.SpliceLemmas.{AreRuns-changed, page_map-changed, runs-changed, length-spliced}

-- an area that ends before a range doesn't begin behind it
pub ended-begun : (areas : List Area) (at begun start end : ℕ) → AreRuns areas → start < end → at ≤ length areas → AllByRecursion (λ a. a.end < start) (take at areas) → AllByRecursion (λ a. end < a.start) (drop begun areas) → at ≤ begun
ended-begun areas zero begun start end runs some within ended behind = omega arith
ended-begun [] (suc at) begun start end runs some within ended behind = absurd (omega (arith, within))
ended-begun (a ∷ areas) (suc at) zero start end runs some within ended behind =
    let first = ended.0 in
    let other = behind.0 in
    let is = (AreRuns-head a areas runs).some in
    absurd (omega (arith, first, other, is, some))
ended-begun (a ∷ areas) (suc at) (suc begun) start end runs some within ended behind =
    let rest = ended-begun areas at begun start end (AreRuns-tail a areas runs) some (omega (arith, within)) ended.1 behind in
    omega (arith, rest)

-- areas that end before a range have begun in front of its end
pub ended-starts : (areas : List Area) (at start end : ℕ) → AreRuns areas → start < end → AllByRecursion (λ a. a.end < start) (take at areas) → AllByRecursion (λ a. a.start ≤ end) (take at areas)
ended-starts areas zero start end runs some ended = tt
ended-starts [] (suc at) start end runs some ended = tt
ended-starts (a ∷ areas) (suc at) start end runs some ended =
    let first = ended.0 in
    let is = (AreRuns-head a areas runs).some in
    (omega (arith, first, is, some), ended-starts areas at start end (AreRuns-tail a areas runs) some ended.1)

-- those that begin behind the range, behind the ones that end in front of it
pub behind-met : (areas : List Area) (at begun start end : ℕ) → AreRuns areas → start < end → at ≤ length areas → AllByRecursion (λ a. a.end < start) (take at areas) → AllByRecursion (λ a. end < a.start) (drop begun areas) → AllByRecursion (λ a. end < a.start) (drop (begun - at) (drop at areas))
behind-met areas at begun start end runs some within ended behind =
    let order = ended-begun areas at begun start end runs some within ended behind in
    let together : at + (begun - at) ≡ begun = omega (arith, order) in
    subst (AllByRecursion (λ a. end < a.start)) (sym (drop-drop (begun - at) at areas ∙ ap (λ n. drop n areas) together)) behind

all-drop : (P : Area → Type 0) (areas : List Area) (n : ℕ) → AllByRecursion P areas → AllByRecursion P (drop n areas)
all-drop P areas zero all = all
all-drop P [] (suc n) all = tt
all-drop P (a ∷ areas) (suc n) all = all-drop P areas n all.1

module _ (areas : List Area) (at begun start end : ℕ) (space : IsSpace areas) (some : start < end) (in_front : at ≤ length areas) (within : begun ≤ length areas) (ended : AllByRecursion (λ a. a.end < start) (take at areas)) (reach : AllByRecursion (λ a. start ≤ a.end) (drop at areas)) (begin : AllByRecursion (λ a. a.start ≤ end) (take begun areas)) (behind : AllByRecursion (λ a. end < a.start) (drop begun areas)) where
  pub front-begun : at ≤ begun
  front-begun = ended-begun areas at begun start end space.runs some in_front ended behind

  -- the areas that meet the range
  abbrev pub met : List Area
  met = take (begun - at) (drop at areas)

  together : at + (begun - at) ≡ begun
  together = let l = front-begun in omega (arith, l)

  met-runs : AreRuns (take (begun - at) (drop at areas))
  met-runs = AreRuns-take (begun - at) (drop at areas) (AreRuns-drop areas at space.runs)

  met-ends : AllByRecursion (λ a. start ≤ a.end) (take (begun - at) (drop at areas))
  met-ends = all_take (λ a. start ≤ a.end) (drop at areas) (begun - at) reach

  met-starts : AllByRecursion (λ a. a.start ≤ end) (take (begun - at) (drop at areas))
  met-starts = subst (AllByRecursion (λ a. a.start ≤ end)) (drop-take at (begun - at) areas) (all-drop (λ a. a.start ≤ end) (take (at + (begun - at)) areas) at (subst (λ n. AllByRecursion (λ a. a.start ≤ end) (take n areas)) (sym together) begin))

  -- what the first and the last of them are
  pub ends-runs : AreRuns (ends_of (take (begun - at) (drop at areas)))
  ends-runs = AreRuns-ends (take (begun - at) (drop at areas)) met-runs

  pub ends-end : AllByRecursion (λ a. start ≤ a.end) (ends_of (take (begun - at) (drop at areas)))
  ends-end = all-ends (λ a. start ≤ a.end) (take (begun - at) (drop at areas)) met-ends

  pub ends-start : AllByRecursion (λ a. a.start ≤ end) (ends_of (take (begun - at) (drop at areas)))
  ends-start = all-ends (λ a. a.start ≤ end) (take (begun - at) (drop at areas)) met-starts

  -- the areas with pieces in their place
  module _ (ps : List Area) (prot : Option ℕ) (are : AreRuns ps) (pages : (q : ℕ) → page_map ps q ≡ changed (page_map (ends_of (take (begun - at) (drop at areas)))) start end prot q) where
    others : AllByRecursion (λ a. end < a.start) (drop (begun - at) (drop at areas))
    others = behind-met areas at begun start end space.runs some in_front ended behind

    met-pages : (q : ℕ) → page_map ps q ≡ changed (page_map (take (begun - at) (drop at areas))) start end prot q
    met-pages q = pages q ∙ changed-ends (take (begun - at) (drop at areas)) start end prot met-runs met-ends met-starts q

    inside : at + (begun - at) ≤ length areas
    inside = let l = together in omega (arith, l, within)

    pub pieced-long : length (spliced at (begun - at) ps areas) ≡ length areas - (begun - at) + length ps
    pieced-long = length-spliced areas ps at (begun - at) inside

    -- how many runs the changed pages have
    pub pieced-many : length (runs (changed (page_map areas) start end prot)) ≡ length areas - (begun - at) + length ps
    pieced-many = runs-changed areas ps at (begun - at) start end prot space some ended others are met-pages ∙ pieced-long

    pub pieced-space : length areas - (begun - at) + length ps ≤ 256 → IsSpace (spliced at (begun - at) ps areas)
    pieced-space few = record { runs = AreRuns-changed areas ps at (begun - at) start end prot space some ended others are met-pages; few = let l = pieced-long in omega (arith, l, few) }

    pub pieced-pages : page_map (spliced at (begun - at) ps areas) ≡ changed (page_map areas) start end prot
    pieced-pages = page_map-changed areas ps at (begun - at) start end prot space some ended others are met-pages
