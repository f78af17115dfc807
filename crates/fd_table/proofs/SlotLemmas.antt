-- Slots, their words and what they say of descriptors.
use Rattle.std.proofs.Common.{◌≡◌, ℕ, ◌+◌, ◌<◌, ◌≤◌, List, [], ◌∷◌, ◌++◌, length, map, set, take, get_or, replicate, Option, Some, None, IfSome, ◌⊎◌, inl, inr, refl, zero, suc, sym, ap, ◌∙◌, subst, arith}
use Rattle.std.proofs.Math.Path.{fun_ext}
use Rattle.std.proofs.lemmas.Bool.{cases_lt}
use Rattle.std.proofs.lemmas.List.{length-map, get_or-map, get_or_past, map_push, take_more, take_more_set}
use Rattle.std.proofs.lemmas.List.FromFn.{fill_by_all, length-map-range_with_len, get_or-map-range_with_len}
use Rattle.std.specs.List.{range_with_len}
use Rattle.fd_table.specs.Tables.{FdMap, no_files, IsFdMap, IsTable, fd_map, slot_word, words_from, stores}
use Rattle.fd_table.specs.Laws.Table.{slot_word-injective}

-- the table of slots can be stored
pub IsFdMap-fd_map : (slots : List (Option ℕ)) → IsTable slots → IsFdMap (fd_map slots)
IsFdMap-fd_map slots is =
    let all = is.all in
    record { within = λ fd past. get_or_past slots fd None (omega arith); files = is.files }

-- the words of the table of slots are those of the slots
pub stores-fd_map : (slots : List (Option ℕ)) → IsTable slots → stores (fd_map slots) ≡ map slot_word slots
unfolding words_from
stores-fd_map slots is =
    let all = is.all in
    sym (fill_by_all (λ fd. slot_word (fd_map slots fd)) (map slot_word slots) 64 0 (length-map slots slot_word ∙ all) (λ fd below. get_or-map slot_word slots fd None 0 (omega arith)))

-- the slots of a table
pub slots_of : FdMap → List (Option ℕ)
slots_of m = map m (range_with_len 0 64)

-- the slots of a table say what it says
fd_map-slots_of : (m : FdMap) → IsFdMap m → fd_map (slots_of m) ≡ m
unfolding slots_of
fd_map-slots_of m is = fun_ext (λ fd. go fd (cases_lt fd 64))
  where
    go : (fd : ℕ) → (fd < 64) ⊎ (64 ≤ fd) → fd_map (map m (range_with_len 0 64)) fd ≡ m fd
    go fd (inl below) = get_or-map-range_with_len m 0 64 fd fd None below (omega arith)
    go fd (inr past) =
        let all = length-map-range_with_len m 0 64 in
        get_or_past (map m (range_with_len 0 64)) fd None (omega arith) ∙ sym (is.within fd past)

-- the slots of a table are one for each descriptor
pub IsTable-slots_of : (m : FdMap) → IsFdMap m → IsTable (slots_of m)
unfolding slots_of
IsTable-slots_of m is = record {
  all = length-map-range_with_len m 0 64;
  files = subst (λ n. (fd : ℕ) → IfSome (n fd) (λ file. file < 65536)) (sym (fd_map-slots_of m is)) is.files;
}

-- the words of its slots store a table
pub map-slots_of : (m : FdMap) → IsFdMap m → map slot_word (slots_of m) ≡ stores m
map-slots_of m is = sym (stores-fd_map (slots_of m) (IsTable-slots_of m is)) ∙ ap stores (fd_map-slots_of m is)

-- words are those of one list of slots
pub map-slot_word-injective : (xs ys : List (Option ℕ)) → map slot_word xs ≡ map slot_word ys → xs ≡ ys
map-slot_word-injective [] [] same = refl
map-slot_word-injective [] (y ∷ ys) same = cc
map-slot_word-injective (x ∷ xs) [] same = cc
map-slot_word-injective (x ∷ xs) (y ∷ ys) same =
    let first : slot_word x ≡ slot_word y = cc in
    let others : map slot_word xs ≡ map slot_word ys = cc in
    let e = slot_word-injective x y first in
    let es = map-slot_word-injective xs ys others in
    λ i. e i ∷ es i

-- free slots say of no descriptor that it is open
fd_map-free : (n fd : ℕ) → fd_map (replicate n None) fd ≡ None
fd_map-free zero fd = refl
fd_map-free (suc n) zero = refl
fd_map-free (suc n) (suc fd) = fd_map-free n fd

-- 64 free slots are a table
pub IsTable-free : IsTable (replicate 64 None)
IsTable-free = record { all = refl; files = λ fd. subst (λ o. IfSome o (λ file. file < 65536)) (sym (fd_map-free 64 fd)) tt }

-- 64 free slots are the table in which nothing is open
pub no_files-free : fd_map (replicate 64 None) ≡ no_files
no_files-free = fun_ext (λ fd. fd_map-free 64 fd)

-- a slot whose file has 16 bits leaves slots whose files do
pub files-set : (slots : List (Option ℕ)) (i : ℕ) (slot : Option ℕ) → ((fd : ℕ) → IfSome (fd_map slots fd) (λ file. file < 65536)) → IfSome slot (λ file. file < 65536) → (fd : ℕ) → IfSome (fd_map (set slots i slot) fd) (λ file. file < 65536)
files-set [] i slot files small fd = tt
files-set (x ∷ xs) zero slot files small zero = small
files-set (x ∷ xs) zero slot files small (suc fd) = files (suc fd)
files-set (x ∷ xs) (suc i) slot files small zero = files zero
files-set (x ∷ xs) (suc i) slot files small (suc fd) = files-set xs i slot (λ k. files (suc k)) small fd

-- one more slot has one more word
pub words-more : (slots : List (Option ℕ)) (words : List ℕ) (i : ℕ) (slot : Option ℕ) → length slots ≡ length words → i < length words → map slot_word (take i slots) ≡ take i words → slot_word slot ≡ get_or words i 0 → map slot_word (take (i + 1) (set slots i slot)) ≡ take (i + 1) words
words-more slots words i slot all below so_far is =
    ap (map slot_word) (take_more_set slots i slot (omega arith)) ∙ map_push slot_word (take i slots) slot ∙ ap (λ ws. ws ++ slot_word slot ∷ []) so_far ∙ ap (λ w. take i words ++ w ∷ []) is ∙ sym (take_more words i 0 below)

-- a slot's word is at most 65536
slot_word-lt : (o : Option ℕ) → IfSome o (λ file. file < 65536) → slot_word o < 65537
slot_word-lt None small = omega arith
slot_word-lt (Some file) small = omega arith

-- a larger word is in the words of no table
pub words-large : (words : List ℕ) (i : ℕ) → length words ≡ 64 → i < length words → 65536 < get_or words i 0 → (slots : List (Option ℕ)) → IsTable slots × (map slot_word slots ≡ words) → ⊥
words-large words i all below large slots (is, same) =
    let many = is.all in
    let here = sym (get_or-map slot_word slots i None 0 (omega arith)) ∙ ap (λ ws. get_or ws i 0) same in
    let small = slot_word-lt (fd_map slots i) (is.files i) in
    omega arith
