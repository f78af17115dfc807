-- The words of a space in which pieces were put in the place of areas.
use Rattle.std.proofs.Common.{◌≡◌, ℕ, zero, suc, ◌+◌, ◌-◌, ◌/◌, ◌%◌, ◌^◌, ◌<◌, ◌≤◌, ◌⊎◌, inl, inr, List, [], ◌∷◌, ◌++◌, length, map, replicate, take, drop, get_or, slice_index, slice_set, refl, sym, ap, ◌∙◌, subst, arith}
use Rattle.std.proofs.lemmas.Bool.{cases_lt}
use Rattle.std.proofs.lemmas.List.{take_at, length-map, map-append, take-map, drop-map, length-append, length-take, length-drop, get_or-drop, get_or-take, get_or-append_right, get_or_append_left, get_or-map}
use Rattle.word_bits.specs.AreaWord.{IsArea, area_word}
use Rattle.vma_map.specs.Runs.{AreRuns, IsSpace, words_of_areas, spliced}
use Rattle.vma_map.specs.Laws.Area.{AreRuns-head, AreRuns-tail}
use Rattle.vma_map.specs.Laws.Space.{length-words_of_areas}
use Rattle.vma_map.proofs.RangeLemmas.{no_area, AreRuns-at}
use Rattle.vma_map.proofs.WordLemmas.{AreRuns-take}
use Rattle.guarded.specs.CallServing.{AreZeroFrom}
use Rattle.guarded.specs.Splicing.{area_of, areas_in, HaveAreas, MakeRoom, IsWritten}
use Rattle.guarded.specs.Types.{Area}
use Rattle.guarded.proofs.Padding.{zeros-index, space-zero}

-- the area of an area's word
pub area_of-word : (a : Area) → IsArea a → area_of (area_word a) ≡ a
area_of-word a is =
    let prot = is.prot in
    let some = is.some in
    let within = is.within in
    let start' : area_word a / 2 ^ 24 ≡ a.start = omega (arith, prot, within) in
    let end' : area_word a / 2 ^ 3 % 2 ^ 21 ≡ a.end = omega (arith, prot, within) in
    let prot' : area_word a % 2 ^ 3 ≡ a.prot = omega (arith, prot, within) in
    λ i. record { start = start' i; end = end' i; prot = prot' i }

-- which has 44 bits
pub area_word-fits : (a : Area) → IsArea a → area_word a < 2 ^ 44
area_word-fits a is =
    let prot = is.prot in
    let some = is.some in
    let within = is.within in
    omega (arith, prot, some, within)

areas-of : (areas : List Area) → AreRuns areas → map area_of (map area_word areas) ≡ areas
areas-of [] runs = refl
areas-of (a ∷ areas) runs =
    let first = area_of-word a (AreRuns-head a areas runs) in
    let rest = areas-of areas (AreRuns-tail a areas runs) in
    λ i. first i ∷ rest i

-- the areas of the words of areas
pub areas_in-words : (areas : List Area) → AreRuns areas → areas_in (words_of_areas areas) ≡ areas
areas_in-words areas runs =
    ap (map area_of) (take_at (map area_word areas) (replicate (256 - length areas) 0) (length areas) (length-map areas area_word)) ∙ areas-of areas runs

pub have-areas : (areas : List Area) (words : List ℕ) → IsSpace areas → words_of_areas areas ≡ words → HaveAreas words × (areas_in words ≡ areas)
have-areas areas words is same =
    let found : areas_in words ≡ areas = ap areas_in (sym same) ∙ areas_in-words areas is.runs in
    (record { space = subst IsSpace (sym found) is; whole = ap words_of_areas found ∙ same }, found)

-- rows that are alike at each place
pub rows-alike : (xs ys : List ℕ) → length xs ≡ length ys → ((i : ℕ) → slice_index xs i ≡ slice_index ys i) → xs ≡ ys
rows-alike [] [] long same = refl
rows-alike [] (y ∷ ys) long same = absurd (omega (arith, long))
rows-alike (x ∷ xs) [] long same = absurd (omega (arith, long))
rows-alike (x ∷ xs) (y ∷ ys) long same =
    let first : x ≡ y = same 0 in
    let rest = rows-alike xs ys (omega (arith, long)) (λ i. same (suc i)) in
    λ i. first i ∷ rest i

-- a word that is written, and the others
pub set-here : (xs : List ℕ) (at n : ℕ) → at < length xs → slice_index (slice_set xs at n) at ≡ n
set-here [] at n below = absurd (omega (arith, below))
set-here (x ∷ xs) zero n below = refl
set-here (x ∷ xs) (suc at) n below = set-here xs at n (omega (arith, below))

pub set-off : (xs : List ℕ) (at i n : ℕ) → (i ≡ at → ⊥) → slice_index (slice_set xs at n) i ≡ slice_index xs i
set-off [] at i n other = refl
set-off (x ∷ xs) zero zero n other = absurd (other refl)
set-off (x ∷ xs) zero (suc i) n other = refl
set-off (x ∷ xs) (suc at) zero n other = refl
set-off (x ∷ xs) (suc at) (suc i) n other = set-off xs at i n (λ e. other (ap suc e))

pub set-long : (xs : List ℕ) (at n : ℕ) → length (slice_set xs at n) ≡ length xs
set-long [] at n = refl
set-long (x ∷ xs) zero n = refl
set-long (x ∷ xs) (suc at) n = ap suc (set-long xs at n)

-- zeros behind words are as nothing there
padded-index : (xs : List ℕ) (n i : ℕ) → slice_index (xs ++ replicate n 0) i ≡ slice_index xs i
padded-index [] n i = zeros-index n i
padded-index (x ∷ xs) n zero = refl
padded-index (x ∷ xs) n (suc i) = padded-index xs n i

-- the word of each area, and 0 behind them
pub word-behind : (areas : List Area) (i : ℕ) → slice_index (words_of_areas areas) (suc i) ≡ slice_index (map area_word areas) i
word-behind areas i = padded-index (map area_word areas) (256 - length areas) i

-- the words of areas with pieces in the place of some
spliced-words : (areas ps : List Area) (at count : ℕ) → map area_word (spliced at count ps areas) ≡ take at (map area_word areas) ++ map area_word ps ++ drop (at + count) (map area_word areas)
spliced-words areas ps at count =
    map-append area_word (take at areas ++ ps) (drop (at + count) areas) ∙ (λ i. map-append area_word (take at areas) ps i ++ sym (drop-map area_word (at + count) areas) i) ∙ ap (λ xs. xs ++ map area_word ps ++ drop (at + count) (map area_word areas)) (sym (take-map area_word at areas))

module _ (ws qs : List ℕ) (at count : ℕ) (within : at + count ≤ length ws) where
  whole : List ℕ
  whole = take at ws ++ qs ++ drop (at + count) ws

  front-long : length (take at ws) ≡ at
  front-long = simp length-take (omega (arith, within))

  both-long : length (take at ws ++ qs) ≡ at + length qs
  both-long = simp (length-append, length-take) (omega (arith, within))

  spliced-front : (i : ℕ) → i < at → slice_index (take at ws ++ qs ++ drop (at + count) ws) i ≡ slice_index ws i
  spliced-front i low =
      get_or_append_left (take at ws ++ qs) (drop (at + count) ws) 0 i (let l = both-long in omega (arith, l, low)) ∙ get_or_append_left (take at ws) qs 0 i (let l = front-long in omega (arith, l, low)) ∙ get_or-take at ws i 0 low

  spliced-piece : (i : ℕ) → at ≤ i → i < at + length qs → slice_index (take at ws ++ qs ++ drop (at + count) ws) i ≡ slice_index qs (i - at)
  spliced-piece i from to =
      get_or_append_left (take at ws ++ qs) (drop (at + count) ws) 0 i (let l = both-long in omega (arith, l, to)) ∙ get_or-append_right (take at ws) qs at i 0 front-long from

  spliced-back : (i : ℕ) → at + length qs ≤ i → slice_index (take at ws ++ qs ++ drop (at + count) ws) i ≡ slice_index ws (i + count - length qs)
  spliced-back i from =
      get_or-append_right (take at ws ++ qs) (drop (at + count) ws) (at + length qs) i 0 both-long from ∙ get_or-drop (at + count) ws (i - (at + length qs)) 0 ∙ ap (slice_index ws) (let e : at + count + (i - (at + length qs)) ≡ i + count - length qs = omega (arith, from) in e)

-- the words with room made and pieces written store the areas with the pieces
module _ (areas ps : List Area) (at count : ℕ) (old room last new : List ℕ) (is : IsSpace areas) (space : IsSpace (spliced at count ps areas)) (within : at + count ≤ length areas) (stored : words_of_areas areas ≡ old) (made : MakeRoom at count (length ps) old room) (written : IsWritten at (map area_word ps) room last) (set : new ≡ slice_set last 0 (length areas - count + length ps)) where
  abbrev ws : List ℕ
  ws = map area_word areas

  abbrev qs : List ℕ
  qs = map area_word ps

  ws-long : length ws ≡ length areas
  ws-long = length-map areas area_word

  qs-long : length qs ≡ length ps
  qs-long = length-map ps area_word

  inside : at + count ≤ length ws
  inside = let l = ws-long in omega (arith, l, within)

  old-word : (i : ℕ) → slice_index old (suc i) ≡ slice_index ws i
  old-word i = ap (λ xs. slice_index xs (suc i)) (sym stored) ∙ word-behind areas i

  all-long : length new ≡ length (words_of_areas (spliced at count ps areas))
  all-long =
      ap length set ∙ set-long last 0 _ ∙ written.as_long ∙ made.as_long ∙ ap length (sym stored) ∙ length-words_of_areas areas is.few ∙ sym (length-words_of_areas (spliced at count ps areas) space.few)

  many : length (spliced at count ps areas) ≡ length areas - count + length ps
  many = simp (length-append, length-take, length-drop) (omega (arith, within))

  -- the word of the area at each place
  at-place : (i : ℕ) → slice_index last (suc i) ≡ slice_index (take at ws ++ qs ++ drop (at + count) ws) i
  at-place i = go (cases_lt i at) (cases_lt i (at + length qs))
    where
      go : (i < at) ⊎ (at ≤ i) → (i < at + length qs) ⊎ (at + length qs ≤ i) → slice_index last (suc i) ≡ slice_index (take at ws ++ qs ++ drop (at + count) ws) i
      go (inl low) side =
          written.front (suc i) (omega (arith, low)) ∙ made.front (suc i) (omega (arith, low)) ∙ old-word i ∙ sym (spliced-front ws qs at count inside i low)
      go (inr from) (inl to) =
          ap (slice_index last) (let e : suc i ≡ at + 1 + (i - at) = omega (arith, from) in e) ∙ written.pieces (i - at) (omega (arith, from, to)) ∙ sym (spliced-piece ws qs at count inside i from to)
      go (inr from) (inr over) =
          let l = qs-long in
          written.back (suc i) (omega (arith, over)) ∙ made.back (suc i) (omega (arith, over, l)) ∙ ap (slice_index old) (let e : suc i + count - length ps ≡ suc (i + count - length qs) = omega (arith, over, l) in e) ∙ old-word (i + count - length qs) ∙ sym (spliced-back ws qs at count inside i over)

  alike : (i : ℕ) → slice_index new i ≡ slice_index (words_of_areas (spliced at count ps areas)) i
  alike zero =
      ap (λ xs. slice_index xs 0) set ∙ set-here last 0 _ (let l = all-long in let n = length-words_of_areas (spliced at count ps areas) space.few in let s = ap length set ∙ set-long last 0 _ in omega (arith, l, n, s)) ∙ sym many
  alike (suc i) =
      ap (λ xs. slice_index xs (suc i)) set ∙ set-off last 0 (suc i) _ (λ e. omega (arith, e)) ∙ at-place i ∙ sym (word-behind (spliced at count ps areas) i ∙ ap (λ xs. slice_index xs i) (spliced-words areas ps at count))

  pub spliced-stored : words_of_areas (spliced at count ps areas) ≡ new
  spliced-stored = sym (rows-alike new (words_of_areas (spliced at count ps areas)) all-long alike)

-- the pieces are areas
pub pieces-runs : (areas ps : List Area) (at count : ℕ) → AreRuns (spliced at count ps areas) → AreRuns ps
pieces-runs areas ps at count runs = go (take at areas) ps (AreRuns-front (take at areas ++ ps) (drop (at + count) areas) runs)
  where
    AreRuns-front : (xs ys : List Area) → AreRuns (xs ++ ys) → AreRuns xs
    AreRuns-front xs ys runs' = subst AreRuns (take_at xs ys (length xs) refl) (AreRuns-take (length xs) (xs ++ ys) runs')

    go : (xs ys : List Area) → AreRuns (xs ++ ys) → AreRuns ys
    go [] ys runs' = runs'
    go (x ∷ xs) ys runs' = go xs ys (AreRuns-tail x (xs ++ ys) runs')

-- the area that a word of a space has
pub area-at : (words : List ℕ) (i : ℕ) → HaveAreas words → i < length (areas_in words) → IsArea (get_or (areas_in words) i no_area) × (area_word (get_or (areas_in words) i no_area) ≡ slice_index words (i + 1))
area-at words i has below =
    (AreRuns-at (areas_in words) i no_area below has.space.runs, sym (ap (λ xs. slice_index xs (i + 1)) (sym has.whole) ∙ ap (slice_index (words_of_areas (areas_in words))) (let e : i + 1 ≡ suc i = omega arith in e) ∙ word-behind (areas_in words) i ∙ get_or-map area_word (areas_in words) i no_area 0 below))

-- their number
pub number-of : (words : List ℕ) → HaveAreas words → slice_index words 0 ≡ length (areas_in words)
number-of words has = sym (ap (λ xs. slice_index xs 0) has.whole)

pub long-of : (words : List ℕ) → HaveAreas words → length words ≡ 257
long-of words has = sym (ap length has.whole) ∙ length-words_of_areas (areas_in words) has.space.few

pub zeros-of : (words : List ℕ) → HaveAreas words → AreZeroFrom (slice_index words 0 + 1) words
zeros-of words has = subst (AreZeroFrom (slice_index words 0 + 1)) has.whole (subst (λ n. AreZeroFrom (n + 1) (words_of_areas (areas_in words))) (sym (number-of words has)) (space-zero (areas_in words)))

-- how many areas there are with pieces in the place of some
pub length-of : (areas ps : List Area) (at count : ℕ) → at + count ≤ length areas → length (spliced at count ps areas) ≡ length areas - count + length ps
length-of areas ps at count within = simp (length-append, length-take, length-drop) (omega (arith, within))
