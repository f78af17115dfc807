-- What stands at a place of a list, and what is reserved object by object.
use Rattle.std.proofs.Common.{◌≡◌, ℕ, ◌+◌, Bool, zero, suc, List, [], ◌∷◌, ◌++◌, take, drop, map, refl, sym, ap, ◌∙◌, append_assoc, arith, Some}
use Rattle.std.specs.Prelude.{slice_get, sum_by}
use Rattle.std.proofs.lemmas.Option.{slice_get_within, get_or_from_slice_get, same_Some}
use Rattle.std.proofs.lemmas.List.Sums.{sum_by_more}
use Rattle.word_bits.specs.Snapshots.{Words, no_words}
use Rattle.mm_report.specs.Text.{task_lines}
use Rattle.task_script.specs.Scripts.{Declared, Listing, kinds_of}
use Rattle.mm_report.specs.Results.{empty_from, calls_on, words_of_kind}
use Rattle.mm_report.specs.Types.{Line}

-- one more element is summed
pub more_sum : {X : Type 0} (f : X → ℕ) (xs : List X) (i : ℕ) (x : X) → slice_get xs i ≡ Some x → sum_by f (take (i + 1) xs) ≡ sum_by f (take i xs) + f x
more_sum f xs i x is = sum_by_more f xs i x (slice_get_within xs i x is) ∙ ap (λ y. sum_by f (take i xs) + f y) (get_or_from_slice_get xs i x x is)

-- what is left of a list begins with what stands at the place
pub drop_at : {X : Type 0} (xs : List X) (i : ℕ) (x : X) → slice_get xs i ≡ Some x → drop i xs ≡ x ∷ drop (i + 1) xs
drop_at [] i x is = cc
drop_at (y ∷ ys) zero x is = rw (same_Some y x is) refl
drop_at (y ∷ ys) (suc i) x is = let e : suc (i + 1) ≡ suc i + 1 = omega arith in drop_at ys i x is ∙ ap (λ n. x ∷ drop n (y ∷ ys)) e

-- what stands at a place of a mapped list was mapped
pub unmapped_at : {X Y : Type 0} (f : X → Y) (xs : List X) (i : ℕ) (y : Y) → slice_get (map f xs) i ≡ Some y → (x : X) × (slice_get xs i ≡ Some x) × (f x ≡ y)
unmapped_at f [] i y is = cc
unmapped_at f (x ∷ xs) zero y is = (x, refl, same_Some (f x) y is)
unmapped_at f (x ∷ xs) (suc i) y is = unmapped_at f xs i y is

-- one more object has its room
pub more_room : (s : Listing) (i : ℕ) (is_space : Bool) (made all : List Words) (w : Words) → slice_get (kinds_of s) i ≡ Some is_space → w ≡ no_words (calls_on s i) (calls_on s i) (words_of_kind is_space)
    → made ++ empty_from s i (drop i s.objects) ≡ all → (made ++ w ∷ []) ++ empty_from s (i + 1) (drop (i + 1) s.objects) ≡ all
more_room s i is_space made all w kind is so =
    let d = unmapped_at (λ (d : Declared). d.is_space) s.objects i is_space kind in
    append_assoc made (w ∷ []) (empty_from s (i + 1) (drop (i + 1) s.objects)) ∙ ap (λ v. made ++ v ∷ empty_from s (i + 1) (drop (i + 1) s.objects)) (is ∙ ap (λ b. no_words (calls_on s i) (calls_on s i) (words_of_kind b)) (sym d.2))
    ∙ (rw (drop_at s.objects i d.0 d.1) at so)

-- the lines of a task are those at its place
pub lines_at : (tasks : List (List Line)) (task : ℕ) (ls : List Line) → slice_get tasks task ≡ Some ls → task_lines tasks task ≡ ls
lines_at [] task ls at = cc
lines_at (ms ∷ more) zero ls at = same_Some ms ls at
lines_at (ms ∷ more) (suc task) ls at = lines_at more task ls at
