-- Areas in order and their words.
use Rattle.std.proofs.Common.{◌≡◌, ◌==◌, ℕ, ◌+◌, ◌-◌, ◌<◌, ◌≤◌, List, [], ◌∷◌, ◌++◌, length, map, replicate, take, drop, set, get_or, Bool, true, false, ◌&&◌, refl, zero, suc, Option, Some, None, sym, ap, ◌∙◌, arith}
use Rattle.std.specs.List.{slice_get, list_all}
use Rattle.std.proofs.lemmas.List.{append_assoc, take-append-drop, take-map, length-map, drop_all, get_or-map, take_more, map_more, length-take, set_at, take_at, drop_at, length-drop}
use Rattle.std.proofs.lemmas.Bool.Decides.{nat_tests}
use Rattle.std.proofs.lemmas.Option.{slice_get_within, get_or_from_slice_get}
use Rattle.arrayvec.specs.ArrayVec.{ArrayVec}
use Rattle.word_bits.specs.declared.area.Area.{Area}
use Rattle.word_bits.specs.AreaWord.{IsArea, area_word}
use Rattle.word_bits.specs.Packed.{IsFound}
use Rattle.vma_map.specs.Runs.{Follows, AreRuns, IsSpace, words_of_areas}
use Rattle.vma_map.specs.Laws.Area.{AreRuns-head, map-area_word-injective}
use Rattle.vma_map.proofs.RangeLemmas.{no_area, at_index, AreRuns-at, AreRuns-from, AreRuns-after}

-- a list that has a last element
pub last_of : {X : Type 0} (xs : List X) (x : X) → slice_get xs (length xs - 1) ≡ Some x → xs ≡ take (length xs - 1) xs ++ x ∷ []
last_of xs x is =
    let within = slice_get_within xs (length xs - 1) x is in
    let here = get_or_from_slice_get xs (length xs - 1) x x is in
    let rest = drop_all (length xs - 1 + 1) xs (omega arith) in
    at_index xs (length xs - 1) x within ∙ ap (λ y. take (length xs - 1) xs ++ y ∷ drop (length xs - 1 + 1) xs) here ∙ ap (λ ys. take (length xs - 1) xs ++ x ∷ ys) rest

-- what follows the last area goes behind the areas
pub follows-push : (areas : List Area) (last next : Area) → slice_get areas (length areas - 1) ≡ Some last → AreRuns areas → IsArea next → Follows last next → AreRuns (areas ++ next ∷ [])
follows-push areas last next is runs area follows = AreRuns-after areas _ last next (last_of areas last is) runs area follows

-- what goes behind the areas follows the last one
pub push-follows : (areas : List Area) (last next : Area) → slice_get areas (length areas - 1) ≡ Some last → AreRuns (areas ++ next ∷ []) → Follows last next
push-follows areas last next is runs =
    let front = take (length areas - 1) areas in
    let at = ap (λ xs. xs ++ next ∷ []) (last_of areas last is) ∙ append_assoc front (last ∷ []) (next ∷ []) in
    (AreRuns-from front last (next ∷ []) (rw at at runs)).1

-- the first ones of runs are runs
pub AreRuns-init : (xs ys : List Area) → AreRuns (xs ++ ys) → AreRuns xs
AreRuns-init [] ys runs = tt
AreRuns-init (x ∷ []) ys runs = AreRuns-head x ys runs
AreRuns-init (x ∷ (y ∷ xs)) ys runs = (runs.0, runs.1, AreRuns-init (y ∷ xs) ys runs.2)

-- so are the first n
pub AreRuns-take : (n : ℕ) (areas : List Area) → AreRuns areas → AreRuns (take n areas)
AreRuns-take n areas runs = AreRuns-init (take n areas) (drop n areas) (rw (sym (take-append-drop n areas)) at runs)

-- a word that no area has is in the words of no areas
pub unpacks-none : (words : List ℕ) (i : ℕ) → i < length words → ((a : Area) → IsArea a × (area_word a ≡ get_or words i 0) → ⊥) → (areas : List Area) → AreRuns areas × (map area_word areas ≡ words) → ⊥
unpacks-none words i below none areas (runs, same) =
    let d = no_area in
    let many : length areas ≡ length words = sym (length-map areas area_word) ∙ ap length same in
    let here = sym (get_or-map area_word areas i d 0 (omega arith)) ∙ ap (λ ws. get_or ws i 0) same in
    none (get_or areas i d) (AreRuns-at areas i d (omega arith) runs, here)

-- the area of a word is the one that it unpacks to
pub unpacks-at : (words : List ℕ) (i : ℕ) (d : Area) → i < length words → (a : Area) → ((b : Area) → IsArea b × (area_word b ≡ get_or words i 0) → b ≡ a) → (areas : List Area) → AreRuns areas → map area_word areas ≡ words → (i < length areas) × (get_or areas i d ≡ a)
unpacks-at words i d below a only areas runs same =
    let many : length areas ≡ length words = sym (length-map areas area_word) ∙ ap length same in
    let here = sym (get_or-map area_word areas i d 0 (omega arith)) ∙ ap (λ ws. get_or ws i 0) same in
    (omega arith, only (get_or areas i d) (AreRuns-at areas i d (omega arith) runs, here))

-- the areas of words begin with those of the first words and the one of the next
pub unpacks-first : (words : List ℕ) (i : ℕ) → i < length words → (before : List Area) → AreRuns before → map area_word before ≡ take i words → (a : Area) → ((b : Area) → IsArea b × (area_word b ≡ get_or words i 0) → b ≡ a) → (areas : List Area) → AreRuns areas × (map area_word areas ≡ words) → AreRuns (before ++ a ∷ [])
unpacks-first words i below before runs_before first a only areas (runs, same) =
    let d = no_area in
    let is = unpacks-at words i d below a only areas runs same in
    let front = map-area_word-injective (take i areas) before (AreRuns-take i areas runs) runs_before (sym (take-map area_word i areas) ∙ ap (take i) same ∙ sym first) in
    let shape = take_more areas i d is.0 ∙ ap (λ xs. xs ++ get_or areas i d ∷ []) front ∙ ap (λ x. before ++ x ∷ []) is.1 in
    rw shape at (AreRuns-take (i + 1) areas runs)

-- one more word is written
pub store_more : (areas : List Area) (i n : ℕ) (out : List ℕ) (d : Area) → i < length areas → length areas ≤ 256 → out ≡ n ∷ (map area_word (take i areas) ++ replicate (256 - i) 0) → set out (i + 1) (area_word (get_or areas i d)) ≡ n ∷ (map area_word (take (i + 1) areas) ++ replicate (256 - (i + 1)) 0)
store_more areas i n out d below few is =
    let word = area_word (get_or areas i d) in
    let front = map area_word (take i areas) in
    let zeros = replicate (256 - (i + 1)) 0 in
    let many : length front ≡ i = simp (length-map, length-take) (omega arith) in
    let left : 256 - i ≡ suc (256 - (i + 1)) = omega arith in
    let shape : out ≡ n ∷ (front ++ 0 ∷ zeros) = is ∙ ap (λ k. n ∷ (front ++ replicate k 0)) left in
    let done : front ++ word ∷ zeros ≡ map area_word (take (i + 1) areas) ++ zeros = sym (append_assoc front (word ∷ []) zeros) ∙ ap (λ ws. ws ++ zeros) (sym (map_more area_word areas i d below)) in
    let one : i + 1 ≡ suc i = omega arith in
    ap (λ ws. set ws (i + 1) word) shape ∙ ap (λ k. set (n ∷ (front ++ 0 ∷ zeros)) k word) one ∙ ap (λ ws. n ∷ ws) (set_at front 0 zeros word i many ∙ done)

-- a number above zero is not zero
nonzero : (n : ℕ) (others : Bool) → (suc n == 0) && others ≡ true → ⊥
nonzero n others e = grind (arith, nat_tests)

-- words that are all zero
zeros_of : (words : List ℕ) → list_all (λ word. word == 0) words ≡ true → words ≡ replicate (length words) 0
zeros_of [] all = refl
zeros_of (zero ∷ words) all = ap (λ ws. 0 ∷ ws) (zeros_of words all)
zeros_of (suc n ∷ words) all = absurd (nonzero n (list_all (λ word. word == 0) words) all)

-- zeros are all zero
zeros_pass : (n : ℕ) → list_all (λ word. word == 0) (replicate n 0) ≡ true
zeros_pass zero = refl
zeros_pass (suc n) = zeros_pass n

module _ (n : ℕ) (rest : List ℕ) (all : length rest ≡ 256) (few : n ≤ 256) where
  -- areas with the words that are used are stored
  tie : (areas : List Area) → drop n rest ≡ replicate (length (drop n rest)) 0 → AreRuns areas × (map area_word areas ≡ take n rest) → IsSpace areas × (words_of_areas areas ≡ n ∷ rest)
  tie areas zeros (runs, same) =
      let used : length (take n rest) ≡ n = simp length-take (omega arith) in
      let many : length areas ≡ n = sym (length-map areas area_word) ∙ ap length same ∙ used in
      let left : length (drop n rest) ≡ 256 - length areas = simp length-drop (omega arith) in
      let tail : replicate (256 - length areas) 0 ≡ drop n rest = sym (zeros ∙ ap (λ k. replicate k 0) left) in
      (record { runs = runs; few = omega arith }, rw (same, tail, many) (ap (λ ws. n ∷ ws) (take-append-drop n rest)))

  -- stored areas have the words that are used
  untie : (areas : List Area) → IsSpace areas × (words_of_areas areas ≡ n ∷ rest) → AreRuns areas × (map area_word areas ≡ take n rest)
  untie areas (is, same) =
      let many : length areas ≡ n = cc in
      let words : map area_word areas ++ replicate (256 - length areas) 0 ≡ rest = cc in
      (is.runs, sym (ap (take n) (sym words) ∙ take_at (map area_word areas) (replicate (256 - length areas) 0) n (length-map areas area_word ∙ many)))

  -- behind the used words of stored areas there are zeros
  unused_zeros : (areas : List Area) → IsSpace areas × (words_of_areas areas ≡ n ∷ rest) → list_all (λ word. word == 0) (drop n rest) ≡ true
  unused_zeros areas (is, same) =
      let many : length areas ≡ n = cc in
      let words : map area_word areas ++ replicate (256 - length areas) 0 ≡ rest = cc in
      ap (λ ws. list_all (λ word. word == 0) ws) (ap (drop n) (sym words) ∙ drop_at (map area_word areas) (replicate (256 - length areas) 0) n (length-map areas area_word ∙ many)) ∙ zeros_pass (256 - length areas)

  -- the areas of the used words are those of all
  found : (r : Option (ArrayVec Area)) → list_all (λ word. word == 0) (drop n rest) ≡ true → IsFound (λ areas. AreRuns areas.items × (map area_word areas.items ≡ take n rest)) r → IsFound (λ areas. IsSpace areas.items × (words_of_areas areas.items ≡ n ∷ rest)) r
  found None zeros none = λ areas is. none areas (untie areas.items is)
  found (Some areas) zeros (are, only) = (tie areas.items (zeros_of (drop n rest) zeros) are, λ other is. only other (untie other.items is))

-- what the areas of the used words are to all words
pub load_found : (words used : List ℕ) (unused : List ℕ) (r : Option (ArrayVec Area)) → length words ≡ 257 → get_or words 0 0 ≤ 256 → used ≡ take (get_or words 0 0) (drop 1 words) → unused ≡ drop (get_or words 0 0) (drop 1 words) → list_all (λ word. word == 0) unused ≡ true → IsFound (λ areas. AreRuns areas.items × (map area_word areas.items ≡ used)) r → IsFound (λ areas. IsSpace areas.items × (words_of_areas areas.items ≡ words)) r
load_found [] used unused r all few front back zeros is = absurd (omega arith)
load_found (n ∷ rest) used unused r all few front back zeros is =
    found n rest (omega arith) few r (ap (λ ws. list_all (λ word. word == 0) ws) (sym back) ∙ zeros) (rw front at is)

-- words with a number behind those that are used store no areas
pub load_dirty : (words unused : List ℕ) → length words ≡ 257 → get_or words 0 0 ≤ 256 → unused ≡ drop (get_or words 0 0) (drop 1 words) → list_all (λ word. word == 0) unused ≡ false → (areas : List Area) → IsSpace areas × (words_of_areas areas ≡ words) → ⊥
load_dirty [] unused all few back dirty areas is = absurd (omega arith)
load_dirty (n ∷ rest) unused all few back dirty areas is =
    let clean = unused_zeros n rest (omega arith) few areas is in
    let same = ap (λ ws. list_all (λ word. word == 0) ws) back in
    cc
