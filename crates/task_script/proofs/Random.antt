-- What every generated script is.
use Rattle.std.proofs.Common.{◌≡◌, ℕ, ◌+◌, ◌*◌, ◌-◌, ◌/◌, ◌%◌, ◌^◌, ◌<◌, ◌≤◌, ◌++◌, ◌==◌, nat_lt, true, false, zero, suc, List, [], ◌∷◌, length, map, refl, sym, ap, ◌∙◌, arith, append_assoc, append-nil, zero-add, inl, inr}
use Rattle.std.specs.Prelude.{if◌then◌else◌, sum_by}
use Rattle.std.specs.List.{AllByRecursion, range_with_len}
use Rattle.std.specs.Global.{Vec}
use Rattle.arrayvec.specs.ArrayString.{ArrayString}
use Rattle.std.proofs.lemmas.List.{length-map, map-append}
use Rattle.std.proofs.lemmas.List.FromFn.{length-map-range_with_len, map-range_with_len_more}
use Rattle.std.proofs.lemmas.List.Sums.{sum_by-cons}
use Rattle.task_script.specs.declared.script.Line.{Line}
use Rattle.task_script.specs.Generated.{generated, next_random, random_access, random_call, random_line, random_lines, random_task, randoms, the_space}
use Rattle.task_script.specs.declared.script.Kind.{Kind}
use Rattle.task_script.specs.Inside.{declared_of, listing}
use Rattle.task_script.specs.Scripts.{Declared, Listing, count_of_calls}
use Rattle.task_script.specs.Verbs.{call_words_of}
use Rattle.task_script.specs.Sound.{IsAccess, IsCall, IsLine, IsSound}
use Rattle.task_script.specs.Types.{CallWords, Plain, Map, Unmap, Protect, Fault, One}

pub randoms_none : (x : ℕ) → randoms x 0 ≡ []
unfolding randoms
randoms_none x = refl

pub randoms_more : (x count : ℕ) → randoms x (suc count) ≡ next_random x ∷ randoms (next_random x) count
unfolding randoms
randoms_more x count = refl

pub length_randoms : (x count : ℕ) → length (randoms x count) ≡ count
length_randoms x zero = rw randoms_none refl
length_randoms x (suc count) = rw randoms_more (ap suc (length_randoms (next_random x) count))

access_ok : (n : ℕ) → IsAccess (random_access n)
access_ok n = elim (n == 0) as (λ t. IsAccess (if t then 1 else if n == 1 then 2 else 4)) [
  | true ↦ inl refl
  | false ↦ elim (n == 1) as (λ t. IsAccess (if t then 2 else 4)) [ true ↦ inr (inl refl) | false ↦ inr (inr refl) ]
]

abbrev maps : (start len prot : ℕ) → CallWords
maps start len prot = call_words_of Map Plain (record { first = start; second = len; third = 0; prot = prot; access = 0 })

abbrev unmaps : (start len : ℕ) → CallWords
unmaps start len = call_words_of Unmap Plain (record { first = start; second = len; third = 0; prot = 0; access = 0 })

abbrev protects : (start len prot : ℕ) → CallWords
protects start len prot = call_words_of Protect Plain (record { first = start; second = len; third = 0; prot = prot; access = 0 })

abbrev looks : (start prot : ℕ) → CallWords
looks start prot = call_words_of Fault Plain (record { first = start; second = 0; third = 0; prot = 0; access = random_access (prot % 3) })

-- each kind of call is one that a space has
call_ok : (kind start len prot : ℕ) → start < 2 ^ 32 → len < 2 ^ 32 → prot < 8 → IsCall One true (random_call kind start len prot)
call_ok kind start len prot s l p =
    elim (nat_lt kind 2) as (λ t. IsCall One true (if t then maps start len prot else if kind == 2 then unmaps start len else if kind == 3 then protects start len prot else looks start prot)) [
      | true ↦ record { verb = Map; mode = Plain; values = record { first = start; second = len; third = 0; prot = prot; access = 0 }; known = refl; moded = refl; ranged = (s, (l, (p, tt))); words = refl }
      | false ↦ elim (kind == 2) as (λ t. IsCall One true (if t then unmaps start len else if kind == 3 then protects start len prot else looks start prot)) [
        | true ↦ record { verb = Unmap; mode = Plain; values = record { first = start; second = len; third = 0; prot = 0; access = 0 }; known = refl; moded = refl; ranged = (s, (l, tt)); words = refl }
        | false ↦ elim (kind == 3) as (λ t. IsCall One true (if t then protects start len prot else looks start prot)) [
          | true ↦ record { verb = Protect; mode = Plain; values = record { first = start; second = len; third = 0; prot = prot; access = 0 }; known = refl; moded = refl; ranged = (s, (l, (p, tt))); words = refl }
          | false ↦ record { verb = Fault; mode = Plain; values = record { first = start; second = 0; third = 0; prot = 0; access = random_access (prot % 3) }; known = refl; moded = refl; ranged = (s, (access_ok (prot % 3), tt)); words = refl }
        ]
      ]
    ]

line_ok : (task x : ℕ) → task < 8 → IsLine One (the_space ∷ []) (random_line task x)
line_ok task x t = record {
  declared = the_space;
  call = random_call (x / 2 ^ 28 % 8) (task * 4096 + x / 2 ^ 8 % 24) (1 + x / 2 ^ 16 % 8) (x / 2 ^ 20 % 8);
  place = refl;
  is = call_ok (x / 2 ^ 28 % 8) (task * 4096 + x / 2 ^ 8 % 24) (1 + x / 2 ^ 16 % 8) (x / 2 ^ 20 % 8) (omega arith) (omega arith) (omega arith);
  words = refl;
}

lines_ok : (task : ℕ) (xs : List ℕ) → task < 8 → AllByRecursion (IsLine One (the_space ∷ [])) (map (random_line task) xs)
lines_ok task [] t = tt
lines_ok task (x ∷ xs) t = (line_ok task x t, lines_ok task xs t)

tasks_ok : (number first count : ℕ) → first + count ≤ 8 → AllByRecursion (AllByRecursion (IsLine One (the_space ∷ []))) (map (random_task number) (range_with_len first count))
tasks_ok number first zero within = tt
tasks_ok number first (suc count) within = (lines_ok first (randoms ((number + first) % 2 ^ 32) 2000) (omega arith), tasks_ok number (first + 1) count (omega arith))

pub generated_sound : (number : ℕ) → IsSound (generated number)
generated_sound number = record {
  few_objects = omega arith;
  few_tasks = rw length-map-range_with_len (omega arith);
  named = (refl, refl, tt);
  calls = tasks_ok number 0 8 (omega arith);
}

mapped : (f : ℕ → Line) (xs : List ℕ) → length (map f xs) ≡ length xs
mapped f xs = simp length-map

length_task : (number task : ℕ) → length (random_task number task) ≡ 2000
length_task number task = mapped (random_line task) (randoms ((number + task) % 2 ^ 32) 2000) ∙ length_randoms ((number + task) % 2 ^ 32) 2000

counts : (number first count : ℕ) → sum_by length (map (random_task number) (range_with_len first count)) ≡ count * 2000
counts number first zero = refl
counts number first (suc count) =
    let here = length_task number first in
    let rest = counts number (first + 1) count in
    sum_by-cons length (random_task number first) (map (random_task number) (range_with_len (first + 1) count)) ∙ omega (arith, here, rest)

pub generated_count : (number : ℕ) → count_of_calls (generated number) ≡ 16000
generated_count number = counts number 0 8

-- one more line, of those that are left
pub lines_more : (task x count i : ℕ) (lines all : List Line) → i < count → lines ++ random_lines task x (count - i) ≡ all → (lines ++ random_line task (next_random x) ∷ []) ++ random_lines task (next_random x) (count - (i + 1)) ≡ all
lines_more task x count i lines all more so_far =
    let left : count - i ≡ suc (count - (i + 1)) = omega arith in
    append_assoc lines (random_line task (next_random x) ∷ []) (random_lines task (next_random x) (count - (i + 1)))
    ∙ ap (λ rs. lines ++ map (random_line task) rs) (sym (ap (randoms x) left ∙ randoms_more x (count - (i + 1)))) ∙ so_far

-- none is left
pub lines_all : (task x count i : ℕ) (lines all : List Line) → count ≤ i → lines ++ random_lines task x (count - i) ≡ all → lines ≡ all
lines_all task x count i lines all past so_far =
    let none : count - i ≡ 0 = omega arith in
    sym (append-nil lines) ∙ ap (λ rs. lines ++ map (random_line task) rs) (sym (ap (randoms x) none ∙ randoms_none x)) ∙ so_far

-- one more task
pub tasks_more : (number task : ℕ) (tasks : List (Vec Line)) (v : Vec Line) → map (λ w. w.items) tasks ≡ map (random_task number) (range_with_len 0 task) → v.items ≡ random_task number task
    → map (λ w. w.items) (tasks ++ v ∷ []) ≡ map (random_task number) (range_with_len 0 (task + 1))
tasks_more number task tasks v so_far is =
    map-append (λ (w : Vec Line). w.items) tasks (v ∷ []) ∙ ap (λ ls. ls ++ v.items ∷ []) so_far ∙ ap (λ l. map (random_task number) (range_with_len 0 task) ++ l ∷ []) is
    ∙ sym (map-range_with_len_more (random_task number) 0 task task (zero-add task))

-- the space and all tasks
pub generated_is : (number count : ℕ) (objects : List (ArrayString × Kind)) (tasks : List (Vec Line)) → count ≡ 8 → map declared_of objects ≡ the_space ∷ [] → map (λ w. w.items) tasks ≡ map (random_task number) (range_with_len 0 count)
    → listing One objects tasks ≡ generated number
generated_is number count objects tasks all named lined =
    let lines : map (λ (w : Vec Line). w.items) tasks ≡ map (random_task number) (range_with_len 0 8) = lined ∙ ap (λ n. map (random_task number) (range_with_len 0 n)) all in
    let P : List Declared → List (List Line) → Listing = λ os ls. record { version = One; objects = os; tasks = ls } in
    ap (λ os. P os (map (λ (w : Vec Line). w.items) tasks)) named ∙ ap (λ ls. P (the_space ∷ []) ls) lines
