-- What a summary counts.
use Rattle.std.proofs.Common.{length-append, ◌≡◌, ℕ, ◌+◌, cond, Bool, List, [], ◌∷◌, ◌++◌, length, take, map, refl, sym, ap, ◌∙◌, subst, Some}
use Rattle.std.specs.Prelude.{count_by, flat_map, slice_get, sum_by}
use Rattle.std.specs.List.{AllByRecursion}
use Rattle.std.proofs.lemmas.List.{length-map, map-append}
use Rattle.std.proofs.lemmas.List.Concat.{flat_map-cons}
use Rattle.std.proofs.lemmas.List.Sums.{sum_by-append, sum_by-cons}
use Rattle.word_bits.specs.Histories.{Records}
use Rattle.word_bits.specs.RecWord.{IsRec, rec_word}
use Rattle.task_script.proofs.Mapped.{mapped_at}
use Rattle.mm_report.specs.Summary.{is_refused, refusals}
use Rattle.mm_report.specs.Types.{Rec}
use Rattle.mm_report.proofs.Reserved.{more_sum}

-- one more word was counted
pub refused_more : (rs : List Rec) (words : List ℕ) (i n word : ℕ) (b : Bool) → slice_get words i ≡ Some word → AllByRecursion IsRec rs → words ≡ map rec_word rs → ((r : Rec) → IsRec r → rec_word r ≡ word → b ≡ is_refused r)
    → n ≡ count_by is_refused (take i rs) → n + cond b 1 0 ≡ count_by is_refused (take (i + 1) rs)
refused_more rs words i n word b at fit is tells so_far =
    let r = mapped_at IsRec rec_word rs words i word fit is at in
    ap (λ m. m + cond b 1 0) so_far ∙ ap (λ c. count_by is_refused (take i rs) + cond c 1 0) (tells r.0 r.2 r.3) ∙ sym (more_sum (λ x. cond (is_refused x) 1 0) rs i r.0 r.1)

-- the records of all tasks in one list
abbrev pub all_of : Records → List Rec
all_of records = flat_map (λ rs. rs) records

pub words_of_all : (records : Records) → flat_map (map rec_word) records ≡ map rec_word (all_of records)
words_of_all [] = refl
words_of_all (rs ∷ rss) =
    flat_map-cons (map rec_word) rs rss ∙ ap (λ ws. map rec_word rs ++ ws) (words_of_all rss) ∙ sym (map-append rec_word rs (all_of rss)) ∙ ap (map rec_word) (sym (flat_map-cons (λ xs. xs) rs rss))

appended : {X : Type 0} (P : X → Type 0) (xs ys : List X) → AllByRecursion P xs → AllByRecursion P ys → AllByRecursion P (xs ++ ys)
appended P [] ys a b = b
appended P (x ∷ xs) ys a b = (a.0, appended P xs ys a.1 b)

pub fit_all : (records : Records) → AllByRecursion (AllByRecursion IsRec) records → AllByRecursion IsRec (all_of records)
fit_all [] fit = tt
fit_all (rs ∷ rss) fit = subst (AllByRecursion IsRec) (sym (flat_map-cons (λ xs. xs) rs rss)) (appended IsRec rs (all_of rss) fit.0 (fit_all rss fit.1))

pub refused_all : (records : Records) → count_by is_refused (all_of records) ≡ refusals records
refused_all [] = refl
refused_all (rs ∷ rss) =
    ap (count_by is_refused) (flat_map-cons (λ xs. xs) rs rss) ∙ sum_by-append (λ x. cond (is_refused x) 1 0) rs (all_of rss) ∙ ap (λ n. count_by is_refused rs + n) (refused_all rss) ∙ sym (sum_by-cons (count_by is_refused) rs rss)

length-append-all : (records : Records) → length (all_of records) ≡ sum_by length records
length-append-all [] = refl
length-append-all (rs ∷ rss) = rw flat_map-cons (rw (length-append, length-append-all rss) (sym (sum_by-cons length rs rss)))

-- one word for each record
pub count_all : (records : Records) → length (flat_map (map rec_word) records) ≡ sum_by length records
count_all records = ap length (words_of_all records) ∙ mapped rec_word (all_of records) ∙ length-append-all records
  where
    mapped : (f : Rec → ℕ) (xs : List Rec) → length (map f xs) ≡ length xs
    mapped f xs = simp length-map
