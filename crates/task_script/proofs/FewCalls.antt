-- Why a script has few calls.
use Rattle.std.proofs.Common.{◌≡◌, ℕ, ◌+◌, ◌*◌, ◌<◌, ◌≤◌, Bool, true, false, cond, not, ◌==◌, List, [], ◌∷◌, ◌++◌, filter, length, length-append, sum_by, refl, arith, codes, Option, Some, None, Result, Ok, Err, is_some, nat_le, ok_or}
use Rattle.std.proofs.lemmas.List.Sums.{sum_by-cons, sum_by-append, prefix_len-le-length}
use Rattle.std.proofs.lemmas.List.Folds.{length-prefix_len}
use Rattle.std.specs.List.{AllByRecursion, slice_split, onto_first, list_all}
use Rattle.word_bits.specs.declared.call.Mode.TheVariants.{Int, Try}
use Rattle.task_script.specs.declared.script.Line.{Line}
use Rattle.task_script.specs.declared.reason.Reason.TheVariants.{Version as NoVersion}
use Rattle.task_script.specs.declared.token.Keyword.TheVariants.{Version as KVersion, Space as KSpace, Table as KTable, Task as KTask, Int as KInt, Try as KTry}
use Rattle.task_script.specs.Cuts.{is_blank, is_empty, is_plain, lines, without_return, words}
use Rattle.task_script.specs.Tokens.{is_name, keyword_of}
use Rattle.task_script.specs.Verbs.{call_on}
use Rattle.std.specs.Str.{bytes_eq}
use Rattle.task_script.specs.Versions.{most_objects, most_tasks}
use Rattle.task_script.specs.Scripts.{Listing, nothing, count_of_calls}
use Rattle.task_script.specs.Grammar.{place_of, with_call, line_of, is_space_at, is_begun, version_line, declare_line, task_line, object_line, call_line, line_of_words, line_after, said, text_after, then_lines, lines_after}
use Rattle.task_script.specs.Types.{Mode, Plain, Two, Reason, Byte, Place, Name, Twice, Limit, Unknown, Keyword}
use Rattle.task_script.proofs.Accepted.{and_then_ok, unless_refused, accepted_call}

-- the bytes of parts, each with the one that closes it
abbrev closed_size : List (List ℕ) → ℕ
closed_size [] = 0
closed_size (part ∷ parts) = (length part + 1) + closed_size parts

-- a byte in front of the first part is one byte more
closed_size-onto_first : (b : ℕ) (parts : List (List ℕ)) → 0 < closed_size parts → closed_size (onto_first b parts) ≡ closed_size parts + 1
closed_size-onto_first b [] some = absurd (omega arith)
closed_size-onto_first b (part ∷ parts) some = omega arith

-- the parts of a text, with one byte more behind the last, have its bytes and that one
closed_size-slice_split : (p : ℕ → Bool) (bs : List ℕ) → closed_size (slice_split p bs) ≡ length bs + 1
closed_size-slice_split p [] = refl
closed_size-slice_split p (b ∷ bs) = go (p b) (closed_size-slice_split p bs)
  where
    go : (t : Bool) → closed_size (slice_split p bs) ≡ length bs + 1 → closed_size (cond t ([] ∷ slice_split p bs) (onto_first b (slice_split p bs))) ≡ length (b ∷ bs) + 1
    go true rest = omega arith
    go false rest = let grown = closed_size-onto_first b (slice_split p bs) (omega arith) in omega arith

-- words are parts, and none is empty
kept_size : (parts : List (List ℕ)) → closed_size (filter (λ w. not (is_empty w)) parts) ≤ closed_size parts
kept_size [] = omega arith
kept_size ([] ∷ parts) = let rest = kept_size parts in omega arith
kept_size ((b ∷ bs) ∷ parts) = let rest = kept_size parts in omega arith

kept_full : (parts : List (List ℕ)) → AllByRecursion (λ w. 1 ≤ length w) (filter (λ w. not (is_empty w)) parts)
kept_full [] = tt
kept_full ([] ∷ parts) = kept_full parts
kept_full ((b ∷ bs) ∷ parts) = (omega arith, kept_full parts)

full_size : (ws : List (List ℕ)) → AllByRecursion (λ w. 1 ≤ length w) ws → 2 * length ws ≤ closed_size ws
full_size [] full = omega arith
full_size (w ∷ ws) full = let rest = full_size ws full.1 in let here = full.0 in omega arith

-- what a line says has no more bytes
length-without_return : (line : List ℕ) → length (without_return line) ≤ length line
length-without_return [] = omega arith
length-without_return (b ∷ []) = go (b == 13)
  where
    go : (t : Bool) → length (cond t [] (b ∷ [])) ≤ 1
    go true = omega arith
    go false = omega arith
length-without_return (b ∷ c ∷ bs) = let rest = length-without_return (c ∷ bs) in omega arith

length-said : (line : List ℕ) → length (said line) ≤ length line
length-said line =
    let cut = length-prefix_len (λ b. not (b == 35)) (without_return line) in
    omega (arith, prefix_len-le-length (λ b. not (b == 35)) (without_return line), length-without_return line)

-- a call that is added adds at most one to the count
count-with_call : (tasks : List (List Line)) (l : Line) → sum_by length (with_call tasks l) ≤ sum_by length tasks + 1
count-with_call [] l = omega arith
count-with_call (calls ∷ []) l = omega (arith, sum_by-cons length (calls ++ l ∷ []) [], sum_by-cons length calls [], length-append calls (l ∷ []))
count-with_call (calls ∷ more ∷ others) l =
    omega (arith, sum_by-cons length calls (with_call (more ∷ others) l), sum_by-cons length calls (more ∷ others), count-with_call (more ∷ others) l)

-- a line has at most as many calls as an eighth of its bytes
abbrev IsWithin : Listing → Listing → List (List ℕ) → Type 0
IsWithin s t ws = 8 * count_of_calls t ≤ 8 * count_of_calls s + closed_size ws

few-declare : (is_space : Bool) (s t : Listing) (ws : List (List ℕ)) → declare_line is_space s ws ≡ Ok t → count_of_calls t ≡ count_of_calls s
few-declare is_space s t [] is = cc
few-declare is_space s t (name ∷ []) is =
    let place = unless_refused (not (is_empty s.tasks)) Place _ t is in
    let named = unless_refused (not (is_name name)) Name _ t place.1 in
    let twice = unless_refused (is_some (place_of name s.objects)) Twice _ t named.1 in
    let limit = unless_refused (nat_le (most_objects s.version) (length s.objects)) Limit _ t twice.1 in
    let same : record { version = s.version; objects = s.objects ++ record { name = name; is_space = is_space } ∷ []; tasks = s.tasks } ≡ t = cc (limit.1) in
    rw (← same) refl
few-declare is_space s t (name ∷ word ∷ more) is = cc

few-version : (s t : Listing) (ws : List (List ℕ)) → version_line s ws ≡ Ok t → count_of_calls t ≡ count_of_calls s
few-version s t [] is = cc
few-version s t (word ∷ []) is =
    let second = unless_refused (not (bytes_eq word (codes "2"))) NoVersion _ t is in
    let first = unless_refused (is_begun s) Place _ t second.1 in
    let same : record s { version = Two } ≡ t = cc (first.1) in
    rw (← same) refl
few-version s t (word ∷ more ∷ others) is = cc

few-task : (s t : Listing) (ws : List (List ℕ)) → task_line s ws ≡ Ok t → count_of_calls t ≡ count_of_calls s
few-task s t [] is =
    let limit = unless_refused (nat_le (most_tasks s.version) (length s.tasks)) Limit _ t is in
    let same : record { version = s.version; objects = s.objects; tasks = s.tasks ++ [] ∷ [] } ≡ t = cc (limit.1) in
    rw (← same) (omega (arith, sum_by-append length s.tasks ([] ∷ []), sum_by-cons {X = List Line} length [] []))
few-task s t (word ∷ ws) is = cc

few-object : (mode : Mode) (s t : Listing) (object : ℕ) (name : List ℕ) (ws : List (List ℕ)) → AllByRecursion (λ w. 1 ≤ length w) (name ∷ ws) → object_line mode s object ws ≡ Ok t → IsWithin s t (name ∷ ws)
few-object mode s t object name [] full is = cc
few-object mode s t object name (verb ∷ ws) full is =
    let read = and_then_ok (call_on s.version (is_space_at s.objects object) mode verb ws) (λ w. Ok (record { version = s.version; objects = s.objects; tasks = with_call s.tasks (line_of object w) })) t is in
    let call = accepted_call s.version (is_space_at s.objects object) mode verb ws read.0 read.1 in
    let same : record { version = s.version; objects = s.objects; tasks = with_call s.tasks (line_of object read.0) } ≡ t = cc (read.2) in
    let here = full.0 in
    let letters = call.verb in
    let some = call.arguments in
    rw (← same) (omega (arith, count-with_call s.tasks (line_of object read.0), full_size ws full.1.1))

few-call : (mode : Mode) (s t : Listing) (ws : List (List ℕ)) → AllByRecursion (λ w. 1 ≤ length w) ws → call_line mode s ws ≡ Ok t → IsWithin s t ws
few-call mode s t [] full is = cc
few-call mode s t (name ∷ ws) full is =
    let place = unless_refused (is_empty s.tasks) Place _ t is in
    let named = unless_refused (not (is_name name)) Name _ t place.1 in
    let read = and_then_ok (ok_or (place_of name s.objects) Unknown) (λ object. object_line mode s object ws) t named.1 in
    few-object mode s t read.0 name ws full read.2

few-words : (keyword : Option Keyword) (s t : Listing) (word : List ℕ) (ws : List (List ℕ)) → AllByRecursion (λ w. 1 ≤ length w) (word ∷ ws) → line_of_words keyword s word ws ≡ Ok t → IsWithin s t (word ∷ ws)
few-words (Some KVersion) s t word ws full is = let same = few-version s t ws is in omega arith
few-words (Some KSpace) s t word ws full is = let same = few-declare true s t ws is in omega arith
few-words (Some KTable) s t word ws full is = let same = few-declare false s t ws is in omega arith
few-words (Some KTask) s t word ws full is = let same = few-task s t ws is in omega arith
few-words (Some KInt) s t word ws full is = let few = few-call Int s t ws full.1 is in omega arith
few-words (Some KTry) s t word ws full is = let few = few-call Try s t ws full.1 is in omega arith
few-words None s t word ws full is = few-call Plain s t (word ∷ ws) full is

few-line : (s t : Listing) (ws : List (List ℕ)) → AllByRecursion (λ w. 1 ≤ length w) ws → line_after s ws ≡ Ok t → IsWithin s t ws
few-line s t [] full is = let same : s ≡ t = cc in rw same (omega arith)
few-line s t (word ∷ ws) full is = few-words (keyword_of word) s t word ws full is

few-text : (s t : Listing) (line : List ℕ) → text_after s line ≡ Ok t → 8 * count_of_calls t ≤ 8 * count_of_calls s + (length line + 1)
few-text s t line is = go (list_all is_plain (said line)) is
  where
    go : (b : Bool) → cond b (line_after s (words (said line))) (Err Byte) ≡ Ok t → 8 * count_of_calls t ≤ 8 * count_of_calls s + (length line + 1)
    go true is =
        let few = few-line s t (words (said line)) (kept_full (slice_split is_blank (said line))) is in
        omega (arith, kept_size (slice_split is_blank (said line)), closed_size-slice_split is_blank (said line), length-said line)
    go false is = cc

few-lines : (n : ℕ) (s t : Listing) (ls : List (List ℕ)) → lines_after n s ls ≡ Ok t → 8 * count_of_calls t ≤ 8 * count_of_calls s + closed_size ls
few-lines n s t [] is = let same : s ≡ t = cc in rw same (omega arith)
few-lines n s t (l ∷ ls) is = go (text_after s l) refl is (λ u more. few-lines (n + 1) u t ls more)
  where
    go : (next : Result Listing Reason) → text_after s l ≡ next → then_lines n next (λ u. lines_after (n + 1) u ls) ≡ Ok t → ((u : Listing) → lines_after (n + 1) u ls ≡ Ok t → 8 * count_of_calls t ≤ 8 * count_of_calls u + closed_size ls)
        → 8 * count_of_calls t ≤ 8 * count_of_calls s + closed_size (l ∷ ls)
    go (Ok u) one is rest = let few = few-text s u l one in let more = rest u is in omega arith
    go (Err reason) one is rest = cc

-- a script has a call for each 8 bytes at most
pub few_calls : (text : List ℕ) (s : Listing) → lines_after 1 nothing (lines text) ≡ Ok s → 8 * count_of_calls s ≤ length text + 1
few_calls text s is = omega (arith, few-lines 1 nothing s (lines text) is, closed_size-slice_split (λ b. b == 10) text)
