-- A text, cut at the first byte that passes.
use Rattle.std.proofs.Common.{◌≡◌, ℕ, ◌+◌, ◌<◌, ◌≤◌, zero, suc, Bool, true, false, List, [], ◌∷◌, ◌++◌, length, take, drop, refl, ap, arith, nat_lt, Option, Some, None}
use Rattle.std.specs.Prelude.{slice_index}
use Rattle.std.proofs.lemmas.Bool.Decides.{nat_tests}
use Rattle.std.specs.List.{between, list_all, slice_split, position, position_or_len}
use Rattle.std.proofs.lemmas.List.Splits.{slice_split_first}
use Rattle.std.proofs.lemmas.Slice.{between_to_end}
use Rattle.std.proofs.lemmas.Bool.{and_parts, ne_eqb}
use Rattle.memchr.specs.Find.{IsFirstByte}
use Rattle.task_script.specs.Cuts.{without_return}

-- a text in which no byte passes is one part
whole : (p : ℕ → Bool) (bs : List ℕ) → length bs ≤ position_or_len p bs → slice_split p bs ≡ bs ∷ []
whole p [] past = refl
whole p (b ∷ bs) past = go (p b) refl (whole p bs)
  where
    go : (t : Bool) → p b ≡ t → (length bs ≤ position_or_len p bs → slice_split p bs ≡ bs ∷ []) → slice_split p (b ∷ bs) ≡ (b ∷ bs) ∷ []
    go true passes rest = absurd (let z : position_or_len p (b ∷ bs) ≡ 0 = rw passes refl in omega arith)
    go false fails rest =
        let more : position_or_len p (b ∷ bs) ≡ 1 + position_or_len p bs = rw fails refl in
        rw (fails, rest (omega arith)) refl

-- a text in which no byte passes is one part
pub uncut : (p : ℕ → Bool) (bs : List ℕ) → position p bs ≡ None → slice_split p bs ≡ bs ∷ []
uncut p bs none = whole p bs (go (nat_lt (position_or_len p bs) (length bs)) refl)
  where
    go : (t : Bool) → nat_lt (position_or_len p bs) (length bs) ≡ t → length bs ≤ position_or_len p bs
    go true inside = let e = rw inside at none in cc
    go false outside = grind (arith, nat_tests)

-- the first part ends where the first byte passes, and the others are those of what stands behind it
pub cut_at : (p : ℕ → Bool) (bs : List ℕ) (i : ℕ) → position p bs ≡ Some i → slice_split p bs ≡ take i bs ∷ slice_split p (between (i + 1) (length bs) bs)
cut_at p bs i found = go (nat_lt (position_or_len p bs) (length bs)) refl
  where
    go : (t : Bool) → nat_lt (position_or_len p bs) (length bs) ≡ t → slice_split p bs ≡ take i bs ∷ slice_split p (between (i + 1) (length bs) bs)
    go true inside =
        let e = rw inside at found in
        let here : position_or_len p bs ≡ i = cc in
        rw (between_to_end bs (i + 1) (length bs) (omega arith), ← here) (slice_split_first p bs 0 (grind (arith, nat_tests)))
    go false outside = let e = rw outside at found in cc

-- what passes for each byte does for each behind a place
all_behind : (p : ℕ → Bool) (bs : List ℕ) (i : ℕ) → list_all p bs ≡ true → list_all p (drop i bs) ≡ true
all_behind p bs zero all = all
all_behind p [] (suc i) all = refl
all_behind p (b ∷ bs) (suc i) all = all_behind p bs i (and_parts (p b) (list_all p bs) all).1

pub kept_behind : (p : ℕ → Bool) (bs : List ℕ) (i : ℕ) → i < length bs → list_all p bs ≡ true → list_all p (between (i + 1) (length bs) bs) ≡ true
kept_behind p bs i within all = rw (between_to_end bs (i + 1) (length bs) (omega arith)) (all_behind p bs (i + 1) all)

-- a carriage return at the end is dropped
pub drops_return : (line front : List ℕ) → line ≡ front ++ 13 ∷ [] → front ≡ without_return line
drops_return line front is = rw is (go front)
  where
    go : (bs : List ℕ) → bs ≡ without_return (bs ++ 13 ∷ [])
    go [] = refl
    go (b ∷ []) = refl
    go (b ∷ c ∷ bs) = ap (λ l. b ∷ l) (go (c ∷ bs))

-- any other byte there is kept
pub keeps_other : (line front : List ℕ) (last : ℕ) → line ≡ front ++ last ∷ [] → (last ≡ 13 → ⊥) → line ≡ without_return line
keeps_other line front last is other = rw is (go front)
  where
    go : (bs : List ℕ) → bs ++ last ∷ [] ≡ without_return (bs ++ last ∷ [])
    go [] = rw (ne_eqb last 13 other) refl
    go (b ∷ []) = ap (λ l. b ∷ l) (go [])
    go (b ∷ c ∷ bs) = ap (λ l. b ∷ l) (go (c ∷ bs))

-- and nothing has no end
pub keeps_nothing : (line : List ℕ) → length line ≡ 0 → line ≡ without_return line
keeps_nothing [] none = refl
keeps_nothing (b ∷ bs) none = absurd (omega arith)

-- how many bytes stand before the first that passes
before_first : (p : ℕ → Bool) (bs : List ℕ) (k : ℕ) → k < length bs → p (slice_index bs k) ≡ true → ((j : ℕ) → j < k → p (slice_index bs j) ≡ true → ⊥) → position_or_len p bs ≡ k
before_first p [] k within passes none = absurd (omega arith)
before_first p (b ∷ bs) zero within passes none = rw passes refl
before_first p (b ∷ bs) (suc k) within passes none = go (p b) refl (before_first p bs k (omega arith) passes (λ j below. none (suc j) (omega arith)))
  where
    go : (t : Bool) → p b ≡ t → position_or_len p bs ≡ k → position_or_len p (b ∷ bs) ≡ suc k
    go true here rest = absurd (none 0 (omega arith) here)
    go false here rest = rw (here, rest) (omega arith)

before_none : (p : ℕ → Bool) (bs : List ℕ) → ((j : ℕ) → j < length bs → p (slice_index bs j) ≡ true → ⊥) → position_or_len p bs ≡ length bs
before_none p [] none = refl
before_none p (b ∷ bs) none = go (p b) refl (before_none p bs (λ j below. none (suc j) (omega arith)))
  where
    go : (t : Bool) → p b ≡ t → position_or_len p bs ≡ length bs → position_or_len p (b ∷ bs) ≡ length (b ∷ bs)
    go true here rest = absurd (none 0 (omega arith) here)
    go false here rest = rw (here, rest) (omega arith)

-- the first place of a byte that passes is its position
pub first_place : (p : ℕ → Bool) (bs : List ℕ) (r : Option ℕ) → IsFirstByte p bs r → r ≡ position p bs
first_place p bs None none =
    let all : position_or_len p bs ≡ length bs = before_none p bs (λ j below. none j (omega arith) below) in
    let test : nat_lt (length bs) (length bs) ≡ false = grind (arith, nat_tests) in
    rw (all, test) refl
first_place p bs (Some k) first =
    let at : position_or_len p bs ≡ k = before_first p bs k first.0.high first.1 (λ j below. first.0.before j (omega arith) below) in
    let test : nat_lt k (length bs) ≡ true = grind (arith, nat_tests, first.0.high) in
    rw (at, test) refl
