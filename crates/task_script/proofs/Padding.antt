-- Padded lines are read as their words.
use Rattle.std.proofs.Common.{◌≡◌, ℕ, ◌+◌, ◌-◌, ◌≤◌, zero, suc, true, not, ◌==◌, List, [], ◌∷◌, ◌++◌, filter, length, take, refl, sym, ap, ◌∙◌, arith, append_assoc, append-nil, ◌⊎◌, inl, inr, Result, Ok, Err}
use Rattle.std.specs.List.{list_all, slice_split, position_or_len}
use Rattle.std.proofs.lemmas.Bool.{and_parts}
use Rattle.std.proofs.lemmas.Bool.Decides.{nat_tests}
use Rattle.std.proofs.lemmas.List.{take_at}
use Rattle.std.proofs.lemmas.List.Elements.{filter-append}
use Rattle.task_script.specs.Cuts.{is_blank, is_clean, is_empty, is_plain, lines, uncommented, without_return, words}
use Rattle.task_script.specs.Scripts.{Listing, nothing}
use Rattle.task_script.specs.Grammar.{Accepted, Refusal, said, line_after, text_after, then_lines, lines_after, script_of}
use Rattle.task_script.specs.Padding.{IsWord, IsCutOff, AreSpread, IsComment, IsPadded, ArePadded, worded, RefusedAt, outcome, PaddingIsPassedOver}
use Rattle.task_script.specs.Types.{Reason}
use Rattle.task_script.proofs.Cutting.{drops_return}
use Rattle.task_script.proofs.Reading.{short_script}
use Rattle.task_script.proofs.Splitting.{clean-visible, clean-append, clean_comment, clean_plain, list_all-weaker, said-clean, slice_split-cut, uncommented-clean, words-visible}

blank_clean : (b : ℕ) → is_blank b ≡ true → is_clean b ≡ true
blank_clean b is = grind (arith, nat_tests)

-- ---- words

words_behind : (blanks xs : List ℕ) → list_all is_blank blanks ≡ true → words (blanks ++ xs) ≡ words xs
words_behind [] xs all = refl
words_behind (b ∷ blanks) xs all =
    let parts = and_parts (is_blank b) (list_all is_blank blanks) all in
    ap (filter (λ w. not (is_empty w))) (slice_split-cut is_blank [] b (blanks ++ xs) parts.0) ∙ words_behind blanks xs parts.1

words_blank : (blanks : List ℕ) → list_all is_blank blanks ≡ true → words blanks ≡ []
words_blank blanks all = ap words (sym (append-nil blanks)) ∙ words_behind blanks [] all

words_word : (w : List ℕ) → IsWord w → words w ≡ w ∷ []
words_word [] is = absurd (omega arith)
words_word (b ∷ bs) is = words-visible b bs is.1

words_first : (w rest : List ℕ) → IsWord w → IsCutOff rest → words (w ++ rest) ≡ w ∷ words rest
words_first w [] is cut = ap words (append-nil w) ∙ words_word w is
words_first w (b ∷ bs) is cut =
    ap (filter (λ v. not (is_empty v))) (slice_split-cut is_blank w b bs cut) ∙ filter-append (λ v. not (is_empty v)) (slice_split is_blank w) (slice_split is_blank bs)
    ∙ ap (λ ws. ws ++ words bs) (words_word w is) ∙ ap (λ ws. w ∷ ws) (sym (ap (filter (λ v. not (is_empty v))) (slice_split-cut is_blank [] b bs cut)))

words_spread : (ws : List (List ℕ)) (line : List ℕ) → AreSpread ws line → words line ≡ ws
words_spread [] line all = words_blank line all
words_spread (w ∷ ws) line (blanks, rest, is, all, word, cut, more) =
    ap words (is ∙ append_assoc blanks w rest) ∙ words_behind blanks (w ++ rest) all ∙ words_first w rest word cut ∙ ap (λ vs. w ∷ vs) (words_spread ws rest more)

spread_clean : (ws : List (List ℕ)) (line : List ℕ) → AreSpread ws line → list_all is_clean line ≡ true
spread_clean [] line all = list_all-weaker is_blank is_clean blank_clean line all
spread_clean (w ∷ ws) line (blanks, rest, is, all, word, cut, more) =
    ap (list_all is_clean) is ∙ clean-append (blanks ++ w) rest (clean-append blanks w (list_all-weaker is_blank is_clean blank_clean blanks all) (clean-visible w word.1)) (spread_clean ws rest more)

-- ---- lines

kept_front : (front xs : List ℕ) (x : ℕ) → without_return (front ++ x ∷ xs) ≡ front ++ without_return (x ∷ xs)
kept_front [] xs x = refl
kept_front (f ∷ []) xs x = refl
kept_front (f ∷ g ∷ front) xs x = ap (λ l. f ∷ l) (kept_front (g ∷ front) xs x)

comment_begins : (xs : List ℕ) → (ys : List ℕ) × (without_return (35 ∷ xs) ≡ 35 ∷ ys)
comment_begins [] = ([], refl)
comment_begins (x ∷ xs) = (without_return (x ∷ xs), refl)

before_comment : (front ys : List ℕ) → list_all is_clean front ≡ true → position_or_len (λ b. b == 35) (front ++ 35 ∷ ys) ≡ length front
before_comment [] ys all = refl
before_comment (b ∷ bs) ys all =
    let parts = and_parts (is_clean b) (list_all is_clean bs) all in
    rw (clean_comment b parts.0, before_comment bs ys parts.1) (omega arith)

cut_comment : (front ys : List ℕ) → list_all is_clean front ≡ true → uncommented (front ++ 35 ∷ ys) ≡ front
cut_comment front ys all = take_at front (35 ∷ ys) (position_or_len (λ b. b == 35) (front ++ 35 ∷ ys)) (sym (before_comment front ys all))

said_padded : (front comment end : List ℕ) → list_all is_clean front ≡ true → IsComment comment → (end ≡ []) ⊎ (end ≡ 13 ∷ []) → said (front ++ (comment ++ end)) ≡ front
said_padded front [] end all is (inl none) = ap (λ e. said (front ++ e)) none ∙ ap said (append-nil front) ∙ said-clean front all
said_padded front [] end all is (inr one) = ap (λ e. said (front ++ e)) one ∙ ap uncommented (sym (drops_return (front ++ 13 ∷ []) front refl)) ∙ uncommented-clean front all
said_padded front (b ∷ bs) end all is ends =
    let begun = comment_begins (bs ++ end) in
    ap (λ c. said (front ++ c ∷ (bs ++ end))) is ∙ ap uncommented (kept_front front (bs ++ end) 35 ∙ ap (λ l. front ++ l) begun.1) ∙ cut_comment front begun.0 all

text_after_padded : (s : Listing) (ws : List (List ℕ)) (line : List ℕ) → IsPadded ws line → text_after s line ≡ line_after s ws
text_after_padded s ws line (front, comment, end, is, spread, commented, ends) =
    let clean = spread_clean ws front spread in
    let says : said line ≡ front = ap said is ∙ said_padded front comment end clean commented ends in
    let plain : list_all is_plain front ≡ true = list_all-weaker is_clean is_plain clean_plain front clean in
    rw (says, plain, words_spread ws front spread) refl

-- ---- texts

-- a refusal by its place among lines with words, where the lines from number n on are these, and so many with words stand before them
abbrev outcome_from : (n k : ℕ) → List (List (List ℕ)) → Result Listing Refusal → Result Listing RefusedAt
outcome_from n k wss (Ok s) = Ok s
outcome_from n k wss (Err r) = Err (record { before = k + length (worded (take (r.line - n) wss)); through = k + length (worded (take (r.line + 1 - n) wss)); reason = r.reason })

-- no line before this one is refused
abbrev IsFrom : ℕ → Result Listing Refusal → Type 0
IsFrom n (Ok s) = Unit {0}
IsFrom n (Err r) = n ≤ r.line

earlier : (n : ℕ) (r : Result Listing Refusal) → IsFrom (n + 1) r → IsFrom n r
earlier n (Ok s) from = tt
earlier n (Err r) from = omega (arith, from)

lines_from : (n : ℕ) (s : Listing) (ls : List (List ℕ)) → IsFrom n (lines_after n s ls)
lines_from n s [] = tt
lines_from n s (l ∷ ls) = go (text_after s l) (λ t. earlier n (lines_after (n + 1) t ls) (lines_from (n + 1) t ls))
  where
    go : (a : Accepted) → ((t : Listing) → IsFrom n (lines_after (n + 1) t ls)) → IsFrom n (then_lines n a (λ t. lines_after (n + 1) t ls))
    go (Ok t) rest = rest t
    go (Err reason) rest = omega arith

-- a line without words in front is not counted, and one with words is
past_empty : (n k : ℕ) (wss : List (List (List ℕ))) (r : Result Listing Refusal) → IsFrom (n + 1) r → outcome_from n k ([] ∷ wss) r ≡ outcome_from (n + 1) k wss r
past_empty n k wss (Ok s) from = refl
past_empty n k wss (Err r) from =
    let before : r.line - n ≡ suc (r.line - (n + 1)) = omega (arith, from) in
    let through : r.line + 1 - n ≡ suc (r.line + 1 - (n + 1)) = omega (arith, from) in
    rw (before, through) refl

past_worded : (n k : ℕ) (w : List ℕ) (ws : List (List ℕ)) (wss : List (List (List ℕ))) (r : Result Listing Refusal) → IsFrom (n + 1) r → outcome_from n k ((w ∷ ws) ∷ wss) r ≡ outcome_from (n + 1) (k + 1) wss r
past_worded n k w ws wss (Ok s) from = refl
past_worded n k w ws wss (Err r) from =
    let before : r.line - n ≡ suc (r.line - (n + 1)) = omega (arith, from) in
    let through : r.line + 1 - n ≡ suc (r.line + 1 - (n + 1)) = omega (arith, from) in
    let more : (c : ℕ) → k + suc c ≡ k + 1 + c = λ (c : ℕ). omega arith in
    rw (before, through) (λ i. Err (record { before = more (length (worded (take (r.line - (n + 1)) wss))) i; through = more (length (worded (take (r.line + 1 - (n + 1)) wss))) i; reason = r.reason }))

-- a refusal of the first line, which has words
first_refused : (n k : ℕ) (w : List ℕ) (ws : List (List ℕ)) (wss : List (List (List ℕ))) (reason : Reason)
    → outcome_from n k ((w ∷ ws) ∷ wss) (Err (record { line = n; reason = reason })) ≡ Err (record { before = k; through = k + 1; reason = reason })
first_refused n k w ws wss reason =
    let before : n - n ≡ zero = omega arith in
    let through : n + 1 - n ≡ suc zero = omega arith in
    let none : k + 0 ≡ k = omega arith in
    rw (before, through) (λ i. Err (record { before = none i; through = k + 1; reason = reason }))

-- what is read behind a line with words that stands behind so many others, unless it was refused
abbrev then_words : ℕ → Accepted → (Listing → Result Listing RefusedAt) → Result Listing RefusedAt
then_words k (Ok t) rest = rest t
then_words k (Err reason) rest = Err (record { before = k; through = k + 1; reason = reason })

-- what lines with words are read as, behind so many others
read_words : ℕ → Listing → List (List (List ℕ)) → Result Listing RefusedAt
read_words k s [] = Ok s
read_words k s (ws ∷ wss) = then_words k (line_after s ws) (λ t. read_words (k + 1) t wss)

outcome_lines : (n k : ℕ) (s : Listing) (wss : List (List (List ℕ))) (ls : List (List ℕ)) → ArePadded wss ls → outcome_from n k wss (lines_after n s ls) ≡ read_words k s (worded wss)
unfolding read_words
outcome_lines n k s [] [] padded = refl
outcome_lines n k s [] (l ∷ ls) padded = absurd padded
outcome_lines n k s (ws ∷ wss) [] padded = absurd padded
outcome_lines n k s ([] ∷ wss) (l ∷ ls) (line, more) =
    rw (text_after_padded s [] l line) (past_empty n k wss (lines_after (n + 1) s ls) (lines_from (n + 1) s ls) ∙ outcome_lines (n + 1) k s wss ls more)
outcome_lines n k s ((w ∷ ws) ∷ wss) (l ∷ ls) (line, more) =
    rw (text_after_padded s (w ∷ ws) l line) (go (line_after s (w ∷ ws)) (λ t. past_worded n k w ws wss (lines_after (n + 1) t ls) (lines_from (n + 1) t ls) ∙ outcome_lines (n + 1) (k + 1) t wss ls more))
  where
    go : (a : Accepted) → ((t : Listing) → outcome_from n k ((w ∷ ws) ∷ wss) (lines_after (n + 1) t ls) ≡ read_words (k + 1) t (worded wss))
        → outcome_from n k ((w ∷ ws) ∷ wss) (then_lines n a (λ t. lines_after (n + 1) t ls)) ≡ then_words k a (λ t. read_words (k + 1) t (worded wss))
    go (Ok t) rest = rest t
    go (Err reason) rest = first_refused n k w ws wss reason

-- of all lines
outcome_all : (wss : List (List (List ℕ))) (r : Result Listing Refusal) → outcome wss r ≡ outcome_from 1 0 wss r
outcome_all wss (Ok s) = refl
outcome_all wss (Err r) =
    let through : r.line + 1 - 1 ≡ r.line = omega arith in
    let none : (c : ℕ) → c ≡ 0 + c = λ (c : ℕ). omega arith in
    rw through (λ i. Err (record { before = none (length (worded (take (r.line - 1) wss))) i; through = none (length (worded (take r.line wss))) i; reason = r.reason }))

-- a text is read as the words of its lines
text_words : (text : List ℕ) (wss : List (List (List ℕ))) → length text ≤ 1048576 → ArePadded wss (lines text) → outcome wss (script_of text) ≡ read_words 0 nothing (worded wss)
text_words text wss short padded = ap (outcome wss) (short_script text short) ∙ outcome_all wss (lines_after 1 nothing (lines text)) ∙ outcome_lines 1 0 nothing wss (lines text) padded

pub padding_is_passed_over : PaddingIsPassedOver
padding_is_passed_over text other wss vss short short_other padded padded_other same =
    text_words text wss short padded ∙ ap (read_words 0 nothing) same ∙ sym (text_words other vss short_other padded_other)
