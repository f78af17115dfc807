-- Texts of lines and words, cut again.
use Rattle.std.proofs.Common.{◌≡◌, ℕ, ◌+◌, Bool, true, false, cond, not, ◌==◌, List, [], ◌∷◌, ◌++◌, filter, length, refl, sym, ap, ◌∙◌, arith}
use Rattle.std.specs.List.{list_all, slice_split, onto_first, position_or_len}
use Rattle.std.proofs.lemmas.Bool.{and_parts, and_from}
use Rattle.std.proofs.lemmas.Bool.Decides.{nat_tests}
use Rattle.std.proofs.lemmas.List.{take_all}
use Rattle.std.proofs.lemmas.List.Elements.{filter-append}
use Rattle.std.proofs.lemmas.List.Folds.{list_all-append}
use Rattle.task_script.specs.Cuts.{is_blank, is_clean, is_clean_or_feed, is_empty, is_plain, lines, uncommented, without_return, words}
use Rattle.task_script.specs.Scripts.{Listing}
use Rattle.task_script.specs.Padding.{is_visible}
use Rattle.task_script.specs.Grammar.{said, text_after, line_after, then_lines, lines_after}

-- there is a first part
some_part : (p : ℕ → Bool) (bs : List ℕ) → (part : List ℕ) × (parts : List (List ℕ)) × (slice_split p bs ≡ part ∷ parts)
some_part p [] = ([], [], refl)
some_part p (b ∷ bs) = go (p b) (some_part p bs)
  where
    go : (t : Bool) → (part : List ℕ) × (parts : List (List ℕ)) × (slice_split p bs ≡ part ∷ parts) → (part : List ℕ) × (parts : List (List ℕ)) × (cond t ([] ∷ slice_split p bs) (onto_first b (slice_split p bs)) ≡ part ∷ parts)
    go true more = ([], slice_split p bs, refl)
    go false more = (b ∷ more.0, more.1, rw more.2 refl)

-- two texts with a cut between them are cut apart
pub slice_split-cut : (p : ℕ → Bool) (xs : List ℕ) (y : ℕ) (ys : List ℕ) → p y ≡ true → slice_split p (xs ++ y ∷ ys) ≡ slice_split p xs ++ slice_split p ys
slice_split-cut p [] y ys cuts = rw cuts refl
slice_split-cut p (x ∷ xs) y ys cuts = go (p x) (some_part p xs) (slice_split-cut p xs y ys cuts)
  where
    go : (t : Bool) → (part : List ℕ) × (parts : List (List ℕ)) × (slice_split p xs ≡ part ∷ parts) → slice_split p (xs ++ y ∷ ys) ≡ slice_split p xs ++ slice_split p ys
        → cond t ([] ∷ slice_split p (xs ++ y ∷ ys)) (onto_first x (slice_split p (xs ++ y ∷ ys))) ≡ cond t ([] ∷ slice_split p xs) (onto_first x (slice_split p xs)) ++ slice_split p ys
    go true first rest = ap (λ parts. [] ∷ parts) rest
    go false first rest = rw (rest, first.2) refl

-- so are their words
pub words-cut : (xs ys : List ℕ) → words (xs ++ 32 ∷ ys) ≡ words xs ++ words ys
words-cut xs ys = ap (filter (λ w. not (is_empty w))) (slice_split-cut is_blank xs 32 ys refl) ∙ filter-append (λ w. not (is_empty w)) (slice_split is_blank xs) (slice_split is_blank ys)

visible_clean : (b : ℕ) → is_visible b ≡ true → is_clean b ≡ true
visible_clean b is = grind (arith, nat_tests)

visible_full : (b : ℕ) → is_visible b ≡ true → is_blank b ≡ false
visible_full b is = grind (arith, nat_tests)

pub clean_plain : (b : ℕ) → is_clean b ≡ true → is_plain b ≡ true
clean_plain b is = grind (arith, nat_tests)

-- where a test passes for each element that passes another
pub list_all-weaker : (p q : ℕ → Bool) → ((b : ℕ) → p b ≡ true → q b ≡ true) → (bs : List ℕ) → list_all p bs ≡ true → list_all q bs ≡ true
list_all-weaker p q weaker [] all = refl
list_all-weaker p q weaker (b ∷ bs) all =
    let parts = and_parts (p b) (list_all p bs) all in
    and_from (q b) (list_all q bs) (weaker b parts.0) (list_all-weaker p q weaker bs parts.1)

pub clean-visible : (bs : List ℕ) → list_all is_visible bs ≡ true → list_all is_clean bs ≡ true
clean-visible bs all = list_all-weaker is_visible is_clean visible_clean bs all

pub clean-append : (xs ys : List ℕ) → list_all is_clean xs ≡ true → list_all is_clean ys ≡ true → list_all is_clean (xs ++ ys) ≡ true
clean-append xs ys one two = list_all-append is_clean xs ys ∙ and_from (list_all is_clean xs) (list_all is_clean ys) one two

-- a text in which nothing cuts is one part
one_part : (p q : ℕ → Bool) → ((b : ℕ) → q b ≡ true → p b ≡ false) → (bs : List ℕ) → list_all q bs ≡ true → slice_split p bs ≡ bs ∷ []
one_part p q uncut [] all = refl
one_part p q uncut (b ∷ bs) all =
    let parts = and_parts (q b) (list_all q bs) all in
    rw (uncut b parts.0, one_part p q uncut bs parts.1) refl

-- a visible text is one word
pub words-visible : (b : ℕ) (bs : List ℕ) → list_all is_visible (b ∷ bs) ≡ true → words (b ∷ bs) ≡ (b ∷ bs) ∷ []
words-visible b bs all = ap (filter (λ w. not (is_empty w))) (one_part is_blank is_visible visible_full (b ∷ bs) all)

clean_line_end : (b : ℕ) → is_clean b ≡ true → (b == 10) ≡ false
clean_line_end b is = grind (arith, nat_tests)

clean_return : (b : ℕ) → is_clean b ≡ true → (b == 13) ≡ false
clean_return b is = grind (arith, nat_tests)

pub clean_comment : (b : ℕ) → is_clean b ≡ true → (b == 35) ≡ false
clean_comment b is = grind (arith, nat_tests)

-- a clean line says itself
without_return-clean : (bs : List ℕ) → list_all is_clean bs ≡ true → without_return bs ≡ bs
without_return-clean [] all = refl
without_return-clean (b ∷ []) all = rw (clean_return b (and_parts (is_clean b) true all).0) refl
without_return-clean (b ∷ c ∷ bs) all = ap (λ l. b ∷ l) (without_return-clean (c ∷ bs) (and_parts (is_clean b) (list_all is_clean (c ∷ bs)) all).1)

all_before : (bs : List ℕ) → list_all is_clean bs ≡ true → position_or_len (λ b. b == 35) bs ≡ length bs
all_before [] all = refl
all_before (b ∷ bs) all =
    let parts = and_parts (is_clean b) (list_all is_clean bs) all in
    rw (clean_comment b parts.0, all_before bs parts.1) (omega arith)

pub uncommented-clean : (bs : List ℕ) → list_all is_clean bs ≡ true → uncommented bs ≡ bs
uncommented-clean bs all = take_all (position_or_len (λ b. b == 35) bs) bs (omega (arith, all_before bs all))

pub said-clean : (bs : List ℕ) → list_all is_clean bs ≡ true → said bs ≡ bs
said-clean bs all = ap uncommented (without_return-clean bs all) ∙ uncommented-clean bs all

text_after-clean : (s : Listing) (bs : List ℕ) → list_all is_clean bs ≡ true → text_after s bs ≡ line_after s (words bs)
text_after-clean s bs all = rw (said-clean bs all, list_all-weaker is_clean is_plain clean_plain bs all) refl

-- a clean line and its end are read first
pub clean_line : (n : ℕ) (s : Listing) (line rest : List ℕ) → list_all is_clean line ≡ true → lines_after n s (lines (line ++ 10 ∷ rest)) ≡ then_lines n (line_after s (words line)) (λ t. lines_after (n + 1) t (lines rest))
clean_line n s line rest all =
    ap (lines_after n s) (slice_split-cut (λ b. b == 10) line 10 rest refl ∙ ap (λ parts. parts ++ lines rest) (one_part (λ b. b == 10) is_clean clean_line_end line all))
    ∙ ap (λ a. then_lines n a (λ t. lines_after (n + 1) t (lines rest))) (text_after-clean s line all)

-- a byte of a clean text that ends no line is of a line
clean_byte : (b : ℕ) → is_clean_or_feed b ≡ true → (b == 10) ≡ false → is_clean b ≡ true
clean_byte b is other = grind (arith, nat_tests)

-- the lines of a clean text are clean
pub clean_lines : (text : List ℕ) → list_all is_clean_or_feed text ≡ true → list_all (list_all is_clean) (lines text) ≡ true
clean_lines [] all = refl
clean_lines (b ∷ bs) all =
    let parts = and_parts (is_clean_or_feed b) (list_all is_clean_or_feed bs) all in
    go (b == 10) refl (some_part (λ c. c == 10) bs) (clean_lines bs parts.1) parts.0
  where
    go : (t : Bool) → (b == 10) ≡ t → (part : List ℕ) × (parts : List (List ℕ)) × (lines bs ≡ part ∷ parts) → list_all (list_all is_clean) (lines bs) ≡ true → is_clean_or_feed b ≡ true → list_all (list_all is_clean) (cond t ([] ∷ lines bs) (onto_first b (lines bs))) ≡ true
    go true ends first rest is = rest
    go false on first rest is =
        let others = and_parts (list_all is_clean first.0) (list_all (list_all is_clean) first.1) (rw first.2 at rest) in
        rw (first.2, clean_byte b is on) (and_from (list_all is_clean first.0) (list_all (list_all is_clean) first.1) others.0 others.1)

-- and a clean line says itself, which is plain
pub clean_said : (line : List ℕ) → list_all is_clean line ≡ true → (line ≡ said line) × (list_all is_plain line ≡ true)
clean_said line all = (sym (said-clean line all), list_all-weaker is_clean is_plain clean_plain line all)
