-- What every accepted script is.
use Rattle.std.proofs.Common.{◌≡◌, ℕ, ◌+◌, ◌<◌, Bool, true, false, cond, not, zero, suc, List, [], ◌∷◌, ◌++◌, length, refl, sym, subst, arith, ◌||◌, codes, Option, Some, None, is_some, Result, Ok, Err, nat_lt, nat_le, ok_or, append-nil, append_assoc, length-append}
use Rattle.std.specs.Prelude.{slice_get}
use Rattle.std.specs.List.{AllByRecursion, list_all, position_or_len}
use Rattle.std.specs.Str.{bytes_eq}
use Rattle.std.proofs.lemmas.Bool.{not-false}
use Rattle.std.proofs.lemmas.Bool.Decides.{nat_tests}
use Rattle.word_bits.specs.declared.call.Mode.TheVariants.{Int, Try}
use Rattle.task_script.specs.declared.script.Line.{Line}
use Rattle.task_script.specs.declared.reason.Reason.TheVariants.{Version as NoVersion}
use Rattle.task_script.specs.declared.token.Keyword.TheVariants.{Version as KVersion, Space as KSpace, Table as KTable, Task as KTask, Int as KInt, Try as KTry}
use Rattle.task_script.specs.Cuts.{is_empty, is_plain, lines, words}
use Rattle.task_script.specs.Tokens.{is_name, keyword_of}
use Rattle.task_script.specs.Verbs.{call_on}
use Rattle.task_script.specs.Versions.{is_second, most_objects, most_tasks}
use Rattle.task_script.specs.Scripts.{Declared, Listing, nothing}
use Rattle.task_script.specs.Sound.{IsCall, IsLine, AreNamed, IsSound}
use Rattle.task_script.specs.Grammar.{place_of, with_call, line_of, is_space_at, is_begun, version_line, declare_line, task_line, object_line, call_line, line_of_words, line_after, said, text_after, then_lines, lines_after}
use Rattle.task_script.specs.Types.{Mode, Plain, Two, Reason, Byte, Place, Name, Twice, Limit, Unknown, Keyword}
use Rattle.task_script.proofs.Accepted.{and_then_ok, ok_or_ok, unless_refused, accepted_call}

-- an empty list
none_there : {X : Type 0} (xs : List X) → is_empty xs ≡ true → xs ≡ []
none_there [] is = refl
none_there (x ∷ xs) is = cc

-- one more object with a name of its own
name_added : (before ds : List Declared) (d : Declared) → AreNamed before ds → is_name d.name ≡ true → place_of d.name (before ++ ds) ≡ None → AreNamed before (ds ++ d ∷ [])
name_added before [] d named is none = (is, subst (λ ds. place_of d.name ds ≡ None) (append-nil before) none, tt)
name_added before (e ∷ ds) d named is none = (
  named.0,
  named.1,
  name_added (before ++ e ∷ []) ds d named.2 is (subst (λ ds. place_of d.name ds ≡ None) (sym (append_assoc before (e ∷ []) ds)) none),
)

-- what a test found to be none
is_none_so : {X : Type 0} (o : Option X) → is_some o ≡ false → o ≡ None
is_none_so None is = refl
is_none_so (Some x) is = cc

declared_sound : (is_space : Bool) (s : Listing) (name : List ℕ) → IsSound s → is_empty s.tasks ≡ true → is_name name ≡ true → place_of name s.objects ≡ None → length s.objects < most_objects s.version
    → IsSound (record { version = s.version; objects = s.objects ++ record { name = name; is_space = is_space } ∷ []; tasks = s.tasks })
declared_sound is_space s name sound empty is none few = record {
  few_objects = omega (arith, length-append s.objects (record { name = name; is_space = is_space } ∷ []));
  few_tasks = sound.few_tasks;
  named = name_added [] s.objects (record { name = name; is_space = is_space }) sound.named is none;
  calls = rw (none_there s.tasks empty) tt;
}

-- a declaration leaves a sound script
sound-declare : (is_space : Bool) (s t : Listing) (ws : List (List ℕ)) → IsSound s → declare_line is_space s ws ≡ Ok t → IsSound t
sound-declare is_space s t [] sound is = cc
sound-declare is_space s t (name ∷ []) sound is =
    let place = unless_refused (not (is_empty s.tasks)) Place _ t is in
    let named = unless_refused (not (is_name name)) Name _ t place.1 in
    let twice = unless_refused (is_some (place_of name s.objects)) Twice _ t named.1 in
    let limit = unless_refused (nat_le (most_objects s.version) (length s.objects)) Limit _ t twice.1 in
    let few : length s.objects < most_objects s.version = below limit.0 in
    let same : record { version = s.version; objects = s.objects ++ record { name = name; is_space = is_space } ∷ []; tasks = s.tasks } ≡ t = cc (limit.1) in
    subst IsSound same (declared_sound is_space s name sound (truly (is_empty s.tasks) place.0) (truly (is_name name) named.0) (is_none_so (place_of name s.objects) twice.0) few)
  where
    truly : (b : Bool) → not b ≡ false → b ≡ true
    truly true is = refl
    truly false is = cc

    below : nat_le (most_objects s.version) (length s.objects) ≡ false → length s.objects < most_objects s.version
    below is = grind (arith, nat_tests)
sound-declare is_space s t (name ∷ word ∷ more) sound is = cc

-- nothing is read in front of a version
begun_by : (a b c : Bool) → (a || b || c) ≡ false → (a ≡ false) × (b ≡ false) × (c ≡ false)
begun_by false false false is = (refl, refl, refl)
begun_by true b c is = cc
begun_by false true c is = cc
begun_by false false true is = cc

-- a version leaves a sound script
sound-version : (s t : Listing) (ws : List (List ℕ)) → version_line s ws ≡ Ok t → IsSound t
sound-version s t [] is = cc
sound-version s t (word ∷ []) is =
    let second = unless_refused (not (bytes_eq word (codes "2"))) NoVersion _ t is in
    let first = unless_refused (is_begun s) Place _ t second.1 in
    let parts = begun_by (is_second s.version) (not (is_empty s.objects)) (not (is_empty s.tasks)) first.0 in
    let objects = none_there s.objects (not-false (is_empty s.objects) parts.1) in
    let tasks = none_there s.tasks (not-false (is_empty s.tasks) parts.2) in
    let same : record s { version = Two } ≡ t = cc (first.1) in
    subst IsSound same (rw (objects, tasks) (record { few_objects = omega arith; few_tasks = omega arith; named = tt; calls = tt }))
sound-version s t (word ∷ more ∷ others) is = cc

-- one more task without calls
task_added : (P : List Line → Type 0) (tasks : List (List Line)) → AllByRecursion P tasks → P [] → AllByRecursion P (tasks ++ [] ∷ [])
task_added P [] each none = (none, tt)
task_added P (ls ∷ tasks) each none = (each.0, task_added P tasks each.1 none)

sound-task : (s t : Listing) (ws : List (List ℕ)) → IsSound s → task_line s ws ≡ Ok t → IsSound t
sound-task s t [] sound is =
    let limit = unless_refused (nat_le (most_tasks s.version) (length s.tasks)) Limit _ t is in
    let few : length s.tasks < most_tasks s.version = below limit.0 in
    let same : record { version = s.version; objects = s.objects; tasks = s.tasks ++ [] ∷ [] } ≡ t = cc (limit.1) in
    subst IsSound same (record {
      few_objects = sound.few_objects;
      few_tasks = omega (arith, length-append s.tasks ([] ∷ []));
      named = sound.named;
      calls = task_added (AllByRecursion (IsLine s.version s.objects)) s.tasks sound.calls tt;
    })
  where
    below : nat_le (most_tasks s.version) (length s.tasks) ≡ false → length s.tasks < most_tasks s.version
    below is = grind (arith, nat_tests)
sound-task s t (word ∷ ws) sound is = cc

-- one more call of the last task
line_added : (P : Line → Type 0) (ls : List Line) (l : Line) → AllByRecursion P ls → P l → AllByRecursion P (ls ++ l ∷ [])
line_added P [] l each is = (is, tt)
line_added P (m ∷ ls) l each is = (each.0, line_added P ls l each.1 is)

call_added : (P : Line → Type 0) (tasks : List (List Line)) (l : Line) → AllByRecursion (AllByRecursion P) tasks → P l → AllByRecursion (AllByRecursion P) (with_call tasks l)
call_added P [] l each is = tt
call_added P (ls ∷ []) l each is = (line_added P ls l each.0 is, tt)
call_added P (ls ∷ ms ∷ more) l each is = (each.0, call_added P (ms ∷ more) l each.1 is)

pub length-with_call : (tasks : List (List Line)) (l : Line) → length (with_call tasks l) ≡ length tasks
length-with_call [] l = refl
length-with_call (ls ∷ []) l = refl
length-with_call (ls ∷ ms ∷ more) l = let rest = length-with_call (ms ∷ more) l in omega arith

-- what stands at a place that was found
object_at : (ds : List Declared) (i : ℕ) → i < length ds → (d : Declared) × (slice_get ds i ≡ Some d) × (is_space_at ds i ≡ d.is_space)
object_at [] i within = absurd (omega arith)
object_at (d ∷ ds) zero within = (d, refl, refl)
object_at (d ∷ ds) (suc i) within = object_at ds i (omega arith)

place_within : (name : List ℕ) (ds : List Declared) (i : ℕ) → place_of name ds ≡ Some i → i < length ds
place_within name ds i is = go (nat_lt (position_or_len (λ (d : Declared). bytes_eq name d.name) ds) (length ds)) refl is
  where
    go : (b : Bool) → nat_lt (position_or_len (λ (d : Declared). bytes_eq name d.name) ds) (length ds) ≡ b → cond b (Some (position_or_len (λ (d : Declared). bytes_eq name d.name) ds)) None ≡ Some i → i < length ds
    go true test is = let same : position_or_len (λ (d : Declared). bytes_eq name d.name) ds ≡ i = cc in grind (arith, nat_tests)
    go false test is = cc

sound-object : (mode : Mode) (s t : Listing) (object : ℕ) (ws : List (List ℕ)) → IsSound s → object < length s.objects → object_line mode s object ws ≡ Ok t → IsSound t
sound-object mode s t object [] sound within is = cc
sound-object mode s t object (verb ∷ ws) sound within is =
    let at = object_at s.objects object within in
    let read = and_then_ok (call_on s.version (is_space_at s.objects object) mode verb ws) (λ w. Ok (record { version = s.version; objects = s.objects; tasks = with_call s.tasks (line_of object w) })) t is in
    let call = accepted_call s.version (is_space_at s.objects object) mode verb ws read.0 read.1 in
    let same : record { version = s.version; objects = s.objects; tasks = with_call s.tasks (line_of object read.0) } ≡ t = cc (read.2) in
    subst IsSound same (record {
      few_objects = sound.few_objects;
      few_tasks = let len = length-with_call s.tasks (line_of object read.0) in let few = sound.few_tasks in omega arith;
      named = sound.named;
      calls = call_added (IsLine s.version s.objects) s.tasks (line_of object read.0) sound.calls (record {
        declared = at.0;
        call = read.0;
        place = at.1;
        is = subst (λ b. IsCall s.version b read.0) at.2 call.call;
        words = refl;
      });
    })

sound-call : (mode : Mode) (s t : Listing) (ws : List (List ℕ)) → IsSound s → call_line mode s ws ≡ Ok t → IsSound t
sound-call mode s t [] sound is = cc
sound-call mode s t (name ∷ ws) sound is =
    let place = unless_refused (is_empty s.tasks) Place _ t is in
    let named = unless_refused (not (is_name name)) Name _ t place.1 in
    let read = and_then_ok (ok_or (place_of name s.objects) Unknown) (λ object. object_line mode s object ws) t named.1 in
    sound-object mode s t read.0 ws sound (place_within name s.objects read.0 (ok_or_ok (place_of name s.objects) Unknown read.0 read.1)) read.2

-- so does each line
sound-words : (keyword : Option Keyword) (s t : Listing) (word : List ℕ) (ws : List (List ℕ)) → IsSound s → line_of_words keyword s word ws ≡ Ok t → IsSound t
sound-words (Some KVersion) s t word ws sound is = sound-version s t ws is
sound-words (Some KSpace) s t word ws sound is = sound-declare true s t ws sound is
sound-words (Some KTable) s t word ws sound is = sound-declare false s t ws sound is
sound-words (Some KTask) s t word ws sound is = sound-task s t ws sound is
sound-words (Some KInt) s t word ws sound is = sound-call Int s t ws sound is
sound-words (Some KTry) s t word ws sound is = sound-call Try s t ws sound is
sound-words None s t word ws sound is = sound-call Plain s t (word ∷ ws) sound is

sound-line : (s t : Listing) (ws : List (List ℕ)) → IsSound s → line_after s ws ≡ Ok t → IsSound t
sound-line s t [] sound is = let same : s ≡ t = cc in subst IsSound same sound
sound-line s t (word ∷ ws) sound is = sound-words (keyword_of word) s t word ws sound is

sound-text : (s t : Listing) (line : List ℕ) → IsSound s → text_after s line ≡ Ok t → IsSound t
sound-text s t line sound is = go (list_all is_plain (said line)) is
  where
    go : (b : Bool) → cond b (line_after s (words (said line))) (Err Byte) ≡ Ok t → IsSound t
    go true is = sound-line s t (words (said line)) sound is
    go false is = cc

-- and all of them
sound-lines : (n : ℕ) (s t : Listing) (ls : List (List ℕ)) → IsSound s → lines_after n s ls ≡ Ok t → IsSound t
sound-lines n s t [] sound is = let same : s ≡ t = cc in subst IsSound same sound
sound-lines n s t (l ∷ ls) sound is = go (text_after s l) refl is (λ u sound more. sound-lines (n + 1) u t ls sound more)
  where
    go : (next : Result Listing Reason) → text_after s l ≡ next → then_lines n next (λ u. lines_after (n + 1) u ls) ≡ Ok t → ((u : Listing) → IsSound u → lines_after (n + 1) u ls ≡ Ok t → IsSound t) → IsSound t
    go (Ok u) one is rest = rest u (sound-text s u l sound one) is
    go (Err reason) one is rest = cc

-- an accepted script is sound
pub accepted_sound : (text : List ℕ) (s : Listing) → lines_after 1 nothing (lines text) ≡ Ok s → IsSound s
accepted_sound text s is = sound-lines 1 nothing s (lines text) (record { few_objects = omega arith; few_tasks = omega arith; named = tt; calls = tt }) is
