-- What a search for the area of a page wants, and how it narrows.
use Rattle.std.proofs.Common.{◌≡◌, ◌≢◌, ℕ, suc, ◌+◌, ◌-◌, ◌/◌, ◌^◌, ◌<◌, ◌≤◌, inl, inr, List, drop, length, slice_index, Some, None, IsSome, ap, subst, arith}
use Rattle.std.proofs.lemmas.Bool.Decides.{nat_tests}
use Rattle.std.proofs.lemmas.Bool.{cases_lt}
use Rattle.std.specs.List.{AllByRecursion}
use Rattle.word_bits.specs.declared.area.Area.{Area}
use Rattle.vma_map.specs.Runs.{words_of_areas}
use Rattle.vma_map.specs.declared.search.Search.{Search}
use Rattle.vma_map.specs.Searches.{ArePartedAt, IsNarrowed, wanted_at}

pub wanted-first : (asked low high : ℕ) → asked ≡ 0 → wanted_at asked low high ≡ Some 0
wanted-first asked low high first = grind (arith, nat_tests)

pub wanted-middle : (asked low high : ℕ) → asked ≢ 0 → low < high → wanted_at asked low high ≡ Some (low + (high - low) / 2 + 1)
wanted-middle asked low high later more = grind (arith, nat_tests)

wanted-none : (asked low high : ℕ) → asked ≢ 0 → high ≤ low → wanted_at asked low high ≡ None
wanted-none asked low high later done = grind (arith, nat_tests)

-- what is wanted behind the first word is left between the two numbers
pub wanted-left : (asked low high : ℕ) → asked ≢ 0 → IsSome (wanted_at asked low high) → low < high
wanted-left asked low high later is = elim (cases_lt low high) [
  | inl more ↦ more
  | inr done ↦ absurd (let none = wanted-none asked low high later done in cc)
]

-- a search that wants nothing knows how many there are, and has no more between the two numbers
pub wanted-over : (asked low high : ℕ) → wanted_at asked low high ≡ None → (asked ≢ 0) × (high ≤ low)
wanted-over asked low high over = let later : asked ≢ 0 = (λ first. let w = wanted-first asked low high first in cc) in (
  later,
  elim (cases_lt low high) [
    | inl more ↦ absurd (let w = wanted-middle asked low high later more in cc)
    | inr done ↦ done
  ],
)

half : (k n : ℕ) → n < 2 ^ suc k → n / 2 < 2 ^ k
half k n few = omega (arith, few)

-- each word more halves what is left
pub halves : (asked n : ℕ) → asked ≤ 10 → 0 < n → n < 2 ^ (10 - asked) → (asked < 10) × (n / 2 < 2 ^ (10 - (asked + 1)))
halves asked n most some few = elim (cases_lt asked 10) [
  | inl less ↦ (less, half (10 - (asked + 1)) n (subst (λ (k : ℕ). n < 2 ^ k) (let e : 10 - asked ≡ suc (10 - (asked + 1)) = omega (arith, less) in e) few))
  | inr more ↦ absurd (let e : 10 - asked ≡ 0 = omega (arith, more) in let one : n < 2 ^ 0 = subst (λ (k : ℕ). n < 2 ^ k) e few in omega (arith, one, some))
]

-- the words begin with the number of areas
pub number-first : (areas : List Area) (words : List ℕ) → words_of_areas areas ≡ words → length areas ≡ slice_index words 0
number-first areas words same = ap (λ ws. slice_index ws 0) same

-- where the two numbers have met, the areas are parted there
pub parted-there : (s : Search) (areas : List Area) (words : List ℕ) → s.begun.high ≤ s.begun.low → IsNarrowed s areas words → ArePartedAt areas s.page s.begun.low s.begun.low
parted-there s areas words over r = let order = s.begun.order in (r.parted.0, subst (λ (n : ℕ). AllByRecursion (λ (a : Area). s.page < a.start) (drop n areas)) (let e : s.begun.high ≡ s.begun.low = omega (arith, order, over) in e) r.parted.1)
