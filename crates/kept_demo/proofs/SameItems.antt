-- Rows of numbered items.
use Rattle.std.proofs.Common.{◌≡◌, ◌<◌, ⊎_elim, ◌++◌, ◌∷◌, [], ◌∙◌, ℕ, List, length, length-append, slice_index, sym, subst, arith}
use Rattle.std.proofs.Math.ListN.{get_or-append}
use Rattle.std.proofs.Math.Seq.{get_or-append_seam}
use Rattle.std.proofs.lemmas.Bool.{cases_lt}
use Rattle.std.proofs.lemmas.List.{ext_get_or}

-- two rows of as many of them are the same
pub same-items : (item : ℕ → ℕ) (xs ys : List ℕ) → length xs ≡ length ys → ((i : ℕ) → i < length ys → slice_index xs i ≡ item i) → ((i : ℕ) → i < length ys → slice_index ys i ≡ item i) → xs ≡ ys
same-items item xs ys long one two = ext_get_or 0 xs ys long (λ i inside. let here = subst (λ (n : ℕ). i < n) long inside in one i here ∙ sym (two i here))

-- the next item goes to the end
pub more-items : (item : ℕ → ℕ) (xs : List ℕ) (x : ℕ) → x ≡ item (length xs) → ((i : ℕ) → i < length xs → slice_index xs i ≡ item i) → (i : ℕ) → i < length (xs ++ x ∷ []) → slice_index (xs ++ x ∷ []) i ≡ item i
more-items item xs x next all i inside = ⊎_elim
    (λ before. get_or-append xs (x ∷ []) 0 i before ∙ all i before)
    (λ behind. let long = length-append xs (x ∷ []) in let last : i ≡ length xs = omega (arith, behind, inside, long) in
    subst (λ (n : ℕ). slice_index (xs ++ x ∷ []) n ≡ item n) (sym last) (get_or-append_seam xs x [] 0 ∙ next))
    (cases_lt i (length xs))
