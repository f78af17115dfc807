-- A search by halves among areas whose key ascends.
use Rattle.std.proofs.Common.{◌≡◌, ℕ, ◌+◌, ◌<◌, ◌≤◌, List, [], ◌∷◌, ◌++◌, take, drop, length, get_or, Some, sym, ap, ◌∙◌, subst, arith}
use Rattle.std.specs.List.{AllByRecursion, slice_get}
use Rattle.std.specs.List.Sorted.{IsNonDecreasingBy}
use Rattle.std.proofs.lemmas.List.{take_more, drop_more, take-append-drop}
use Rattle.std.proofs.lemmas.Option.{get_or_from_slice_get, slice_get_within}
use Rattle.word_bits.specs.declared.area.Area.{Area}
use Rattle.vma_map.proofs.RangeLemmas.{no_area, at_index}
use Rattle.vma_map.proofs.CutLemmas.{all_front, all_rest, AreRuns-rest}
use Rattle.vma_map.specs.Runs.{AreRuns}

module _ (n : Area → ℕ) (areas : List Area) (ascend : IsNonDecreasingBy n areas) (page i : ℕ) (a : Area) (is : slice_get areas i ≡ Some a) where
  below : i < length areas
  below = slice_get_within areas i a is

  -- all up to an area whose key is below a number have such keys
  pub front-below : n a < page → AllByRecursion (λ b. n b < page) (take (i + 1) areas)
  front-below low = all_front (λ b. n b < page) areas (i + 1) (λ k d from to. let upto = ascend k i d (omega (arith, to)) below in let here : n (get_or areas i d) < page = subst (λ (b : Area). n b < page) (sym (get_or_from_slice_get areas i a d is)) low in omega (arith, upto, here)) (omega (arith, below))

  -- all from one on whose key isn't have others
  pub rest-above : page ≤ n a → AllByRecursion (λ b. page ≤ n b) (drop i areas)
  rest-above high = all_rest (λ b. page ≤ n b) areas i (λ k d from to. let after = ascend i k d from to in let here : page ≤ n (get_or areas i d) = subst (λ (b : Area). page ≤ n b) (sym (get_or_from_slice_get areas i a d is)) high in omega (arith, after, here))

  pub front-upto : n a ≤ page → AllByRecursion (λ b. n b ≤ page) (take (i + 1) areas)
  front-upto low = all_front (λ b. n b ≤ page) areas (i + 1) (λ k d from to. let upto = ascend k i d (omega (arith, to)) below in let here : n (get_or areas i d) ≤ page = subst (λ (b : Area). n b ≤ page) (sym (get_or_from_slice_get areas i a d is)) low in omega (arith, upto, here)) (omega (arith, below))

  pub rest-behind : page < n a → AllByRecursion (λ b. page < n b) (drop i areas)
  rest-behind high = all_rest (λ b. page < n b) areas i (λ k d from to. let after = ascend i k d from to in let here : page < n (get_or areas i d) = subst (λ (b : Area). page < n b) (sym (get_or_from_slice_get areas i a d is)) high in omega (arith, after, here))

-- a list at an element
pub at-element : (areas : List Area) (i : ℕ) (a : Area) → slice_get areas i ≡ Some a → areas ≡ take i areas ++ a ∷ drop (i + 1) areas
at-element areas i a is = subst (λ (b : Area). areas ≡ take i areas ++ b ∷ drop (i + 1) areas) (get_or_from_slice_get areas i a no_area is) (at_index areas i no_area (slice_get_within areas i a is))

-- the areas up to one
pub take-element : (areas : List Area) (i : ℕ) (a : Area) → slice_get areas i ≡ Some a → take (i + 1) areas ≡ take i areas ++ a ∷ []
take-element areas i a is = take_more areas i no_area (slice_get_within areas i a is) ∙ ap (λ (b : Area). take i areas ++ b ∷ []) (get_or_from_slice_get areas i a no_area is)

-- the areas from one on
pub drop-element : (areas : List Area) (i : ℕ) (a : Area) → slice_get areas i ≡ Some a → drop i areas ≡ a ∷ drop (i + 1) areas
drop-element areas i a is = drop_more areas i no_area (slice_get_within areas i a is) ∙ ap (λ (b : Area). b ∷ drop (i + 1) areas) (get_or_from_slice_get areas i a no_area is)

pub AreRuns-drop : (areas : List Area) (i : ℕ) → AreRuns areas → AreRuns (drop i areas)
AreRuns-drop areas i runs = AreRuns-rest (take i areas) (drop i areas) (subst AreRuns (sym (take-append-drop i areas)) runs)

-- areas that end before the next page end at a page at most
pub ended-at : (areas : List Area) (n page : ℕ) → AllByRecursion (λ a. a.end < page + 1) (take n areas) → AllByRecursion (λ a. a.end ≤ page) (take n areas)
ended-at areas n page ended = go (take n areas) ended
  where
    go : (xs : List Area) → AllByRecursion (λ a. a.end < page + 1) xs → AllByRecursion (λ a. a.end ≤ page) xs
    go [] all = tt
    go (a ∷ xs) all = let first = all.0 in (omega (arith, first), go xs all.1)
