-- The text of a call is read as that call.
use Rattle.std.proofs.Common.{◌≡◌, ℕ, ◌/◌, ◌%◌, ◌^◌, ◌<◌, Bool, true, false, cond, ◌&&◌, ◌==◌, zero, suc, List, [], ◌∷◌, ◌++◌, map, length, refl, sym, ap, ◌∙◌, arith, append_assoc, append-nil, codes, Some, None, Ok, nat_lt, inl, inr, ◌⊎◌}
use Rattle.std.specs.Prelude.{decimal}
use Rattle.std.specs.Char.{is_ascii_digit}
use Rattle.std.specs.List.{AllByRecursion, list_all}
use Rattle.std.specs.Str.{bytes_eq}
use Rattle.std.proofs.lemmas.Bool.{cases_Bool}
use Rattle.std.proofs.lemmas.Bool.Decides.{nat_tests}
use Rattle.std.proofs.lemmas.List.{length-map}
use Rattle.word_bits.specs.declared.call.Mode.TheVariants.{Int, Try}
use Rattle.word_bits.specs.CallKinds.{kind_number, kind_of_number}
use Rattle.word_bits.proofs.CallKinds.{kind_number-lt, kind_of_number-kind_number}
use Rattle.word_bits.specs.Calls.{mode_of, mode_number}
use Rattle.word_bits.proofs.Modes.{mode_number-lt}
use Rattle.task_script.specs.declared.version.Version.{Version}
use Rattle.task_script.specs.Cuts.{is_clean, words}
use Rattle.task_script.specs.Tokens.{number, prot, access}
use Rattle.task_script.specs.Verbs.{with_argument, with_arguments, arguments_of, no_values, is_on_kind, takes_mode, verb_text, call_with, call_on, call_words_of}
use Rattle.task_script.specs.Sound.{IsAccess, IsInRange, only, IsCall}
use Rattle.task_script.specs.Versions.{most_tasks}
use Rattle.task_script.specs.Texts.{prot_text, access_text, argument_text, arguments_text, values_of, verb_and_arguments}
use Rattle.task_script.proofs.Accepted.{text_same}
use Rattle.task_script.proofs.Decimals.{number-decimal, digits-decimal, some-decimal}
use Rattle.task_script.specs.Padding.{is_visible}
use Rattle.task_script.specs.Types.{CallWords, Mode, Plain, CallKind, Map, MapAny, MapNew, Unmap, Protect, Populate, Fault, Open, Close, Dup, Dup2, Get, Remap, Signal, One, Two, Argument}
use Rattle.task_script.specs.Types.{First, Second, Third, File, Target, Protection, AccessBit, Values}
use Rattle.task_script.proofs.Splitting.{words-cut, words-visible, clean-visible, clean-append}

-- values whose fields can be packed
pub record AreSmall (v : Values) : Type 0 where
  pub first : v.first < 2 ^ 32
  pub second : v.second < 2 ^ 32
  pub third : v.third < 2 ^ 32
  pub prot : v.prot < 8
  pub access : v.access < 8

access_small : (n : ℕ) → IsAccess n → n < 8
access_small n (inl is) = omega arith
access_small n (inr (inl is)) = omega arith
access_small n (inr (inr is)) = omega arith

target_small : (version : Version) (task : ℕ) → task < most_tasks version → task < 2 ^ 32
target_small One task few = omega arith
target_small Two task few = omega arith

only_small : (version : Version) (arguments : List Argument) (v : Values) → AllByRecursion (IsInRange version v) arguments → AreSmall (only arguments v)
only_small version [] v each = record { first = omega arith; second = omega arith; third = omega arith; prot = omega arith; access = omega arith }
only_small version (First ∷ arguments) v each = let rest = only_small version arguments v each.1 in record { first = each.0; second = rest.second; third = rest.third; prot = rest.prot; access = rest.access }
only_small version (Second ∷ arguments) v each = let rest = only_small version arguments v each.1 in record { first = rest.first; second = each.0; third = rest.third; prot = rest.prot; access = rest.access }
only_small version (Third ∷ arguments) v each = let rest = only_small version arguments v each.1 in record { first = rest.first; second = rest.second; third = each.0; prot = rest.prot; access = rest.access }
only_small version (File ∷ arguments) v each = let rest = only_small version arguments v each.1 in let here = each.0 in record { first = omega arith; second = rest.second; third = rest.third; prot = rest.prot; access = rest.access }
only_small version (Target ∷ arguments) v each = let rest = only_small version arguments v each.1 in record { first = target_small version v.first each.0; second = rest.second; third = rest.third; prot = rest.prot; access = rest.access }
only_small version (Protection ∷ arguments) v each = let rest = only_small version arguments v each.1 in record { first = rest.first; second = rest.second; third = rest.third; prot = each.0; access = rest.access }
only_small version (AccessBit ∷ arguments) v each = let rest = only_small version arguments v each.1 in record { first = rest.first; second = rest.second; third = rest.third; prot = rest.prot; access = access_small v.access each.0 }

-- the fields of a call's words are read again
fields : (verb : CallKind) (mode : Mode) (v : Values) → AreSmall v → (kind_of_number ((call_words_of verb mode v).b % 2 ^ 8) ≡ Some verb) × (values_of (call_words_of verb mode v) ≡ v)
fields verb mode v small =
    let kind = kind_number-lt verb in
    let b = (call_words_of verb mode v).b in
    let modes = mode_number-lt mode in
    let low : b % 2 ^ 8 ≡ kind_number verb = omega (arith, small.prot, small.access) in
    let third : b / 2 ^ 32 ≡ v.third = omega (arith, small.prot, small.access, modes) in
    let first : (call_words_of verb mode v).a % 2 ^ 32 ≡ v.first = omega (arith, small.first) in
    let second : (call_words_of verb mode v).a / 2 ^ 32 ≡ v.second = omega (arith, small.first, small.second) in
    let bits : b / 2 ^ 8 % 2 ^ 8 ≡ v.prot = omega (arith, small.prot, small.access) in
    let accesses : b / 2 ^ 16 % 2 ^ 8 ≡ v.access = omega (arith, small.prot, small.access) in
    (ap kind_of_number low ∙ kind_of_number-kind_number verb, λ i. record { first = first i; second = second i; third = third i; prot = bits i; access = accesses i })

pub mode_kept : (verb : CallKind) (mode : Mode) (v : Values) → AreSmall v → mode_of (call_words_of verb mode v) ≡ mode
mode_kept verb mode v small =
    let kind = kind_number-lt verb in
    let modes = mode_number-lt mode in
    let high : (call_words_of verb mode v).b / 2 ^ 24 % 2 ^ 8 ≡ mode_number mode = omega (arith, small.prot, small.access, modes) in
    rw high (numbered mode)
  where
    numbered : (mode : Mode) → cond (mode_number mode == 1) Int (cond (mode_number mode == 2) Try Plain) ≡ mode
    numbered Plain = refl
    numbered Int = refl
    numbered Try = refl

-- a protection is read from its three letters, which are visible
prot_read : (bits : ℕ) → bits < 8 → (prot (prot_text bits) ≡ Some bits) × (list_all is_visible (prot_text bits) ≡ true)
prot_read zero small = (refl, refl)
prot_read (suc zero) small = (refl, refl)
prot_read (suc (suc zero)) small = (refl, refl)
prot_read (suc (suc (suc zero))) small = (refl, refl)
prot_read (suc (suc (suc (suc zero)))) small = (refl, refl)
prot_read (suc (suc (suc (suc (suc zero))))) small = (refl, refl)
prot_read (suc (suc (suc (suc (suc (suc zero)))))) small = (refl, refl)
prot_read (suc (suc (suc (suc (suc (suc (suc zero))))))) small = (refl, refl)
prot_read (suc (suc (suc (suc (suc (suc (suc (suc n)))))))) small = absurd (omega arith)

-- an access from its letter
access-text : (bits : ℕ) → IsAccess bits → (access (access_text bits) ≡ Some bits) × (words (access_text bits) ≡ access_text bits ∷ []) × (list_all is_visible (access_text bits) ≡ true)
access-text bits (inl is) = rw is (refl, refl, refl)
access-text bits (inr (inl is)) = rw is (refl, refl, refl)
access-text bits (inr (inr is)) = rw is (refl, refl, refl)

-- a number is one word of visible bytes
digit_visible : (bs : List ℕ) → list_all is_ascii_digit bs ≡ true → list_all is_visible bs ≡ true
digit_visible [] all = refl
digit_visible (b ∷ bs) all = go (is_ascii_digit b) refl all (digit_visible bs)
  where
    go : (t : Bool) → is_ascii_digit b ≡ t → (t && list_all is_ascii_digit bs) ≡ true → (list_all is_ascii_digit bs ≡ true → list_all is_visible bs ≡ true) → (is_visible b && list_all is_visible bs) ≡ true
    go true digit all rest = let here : is_visible b ≡ true = grind (arith, nat_tests) in rw (here, rest all) refl
    go false digit all rest = cc

some_word : (bs : List ℕ) → 0 < length bs → list_all is_visible bs ≡ true → words bs ≡ bs ∷ []
some_word [] some all = absurd (omega arith)
some_word (b ∷ bs) some all = words-visible b bs all

-- the text of an argument in its range is one word, and is read as what the argument says
abbrev said : Argument → Values → Values → Values
said First v u = record u { first = v.first }
said Second v u = record u { second = v.second }
said Third v u = record u { third = v.third }
said File v u = record u { first = v.first }
said Target v u = record u { first = v.first }
said Protection v u = record u { prot = v.prot }
said AccessBit v u = record u { access = v.access }

record IsRead (version : Version) (v : Values) (a : Argument) : Type 0 where
  visible : list_all is_visible (argument_text v a) ≡ true
  word : words (argument_text v a) ≡ argument_text v a ∷ []
  value : (u : Values) → with_argument version a (argument_text v a) u ≡ Ok (said a v u)

number_word : (n : ℕ) → n < 2 ^ 32 → (list_all is_visible (decimal n) ≡ true) × (words (decimal n) ≡ decimal n ∷ [])
number_word n fits = let all = digit_visible (decimal n) (digits-decimal n fits) in (all, some_word (decimal n) (some-decimal n fits) all)

is_read : (version : Version) (v : Values) (a : Argument) → IsInRange version v a → IsRead version v a
is_read version v First fits = let w = number_word v.first fits in record { visible = w.0; word = w.1; value = λ u. rw (number-decimal v.first fits) refl }
is_read version v Second fits = let w = number_word v.second fits in record { visible = w.0; word = w.1; value = λ u. rw (number-decimal v.second fits) refl }
is_read version v Third fits = let w = number_word v.third fits in record { visible = w.0; word = w.1; value = λ u. rw (number-decimal v.third fits) refl }
is_read version v File fits =
    let w = number_word v.first (omega arith) in
    let small : nat_lt v.first 65536 ≡ true = grind (arith, nat_tests) in
    record { visible = w.0; word = w.1; value = λ u. rw (number-decimal v.first (omega arith), small) refl }
is_read version v Target fits =
    let few = target_small version v.first fits in
    let w = number_word v.first few in
    let small : nat_lt v.first (most_tasks version) ≡ true = grind (arith, nat_tests) in
    record { visible = w.0; word = w.1; value = λ u. rw (number-decimal v.first few, small) refl }
is_read version v Protection fits = let p = prot_read v.prot fits in record { visible = p.1; word = words-visible _ _ p.1; value = λ u. rw p.0 refl }
is_read version v AccessBit fits = let w = access-text v.access fits in record { visible = w.2; word = w.1; value = λ u. rw w.0 refl }

-- so are all of them
abbrev say_all : List Argument → Values → Values → Values
say_all [] v u = u
say_all (a ∷ arguments) v u = say_all arguments v (said a v u)

with_arguments-text : (version : Version) (arguments : List Argument) (v u : Values) → AllByRecursion (IsInRange version v) arguments → with_arguments version arguments (map (argument_text v) arguments) u ≡ Ok (say_all arguments v u)
with_arguments-text version [] v u each = refl
with_arguments-text version (a ∷ arguments) v u each = rw ((is_read version v a each.0).value u) (with_arguments-text version arguments v (said a v u) each.1)

words-arguments : (version : Version) (arguments : List Argument) (v : Values) (xs : List ℕ) → AllByRecursion (IsInRange version v) arguments → words (xs ++ arguments_text v arguments) ≡ words xs ++ map (argument_text v) arguments
words-arguments version [] v xs each = ap words (append-nil xs) ∙ sym (append-nil (words xs))
words-arguments version (a ∷ arguments) v xs each =
    ap words (sym (append_assoc xs (32 ∷ argument_text v a) (arguments_text v arguments))) ∙ words-arguments version arguments v (xs ++ 32 ∷ argument_text v a) each.1
    ∙ ap (λ ws. ws ++ map (argument_text v) arguments) (words-cut xs (argument_text v a) ∙ ap (λ ws. words xs ++ ws) (is_read version v a each.0).word)
    ∙ append_assoc (words xs) (argument_text v a ∷ []) (map (argument_text v) arguments)

clean-arguments : (version : Version) (arguments : List Argument) (v : Values) → AllByRecursion (IsInRange version v) arguments → list_all is_clean (arguments_text v arguments) ≡ true
clean-arguments version [] v each = refl
clean-arguments version (a ∷ arguments) v each = clean-append (argument_text v a) (arguments_text v arguments) (clean-visible (argument_text v a) (is_read version v a each.0).visible) (clean-arguments version arguments v each.1)

-- what a verb's arguments say of values is all that is kept of them
kept : (verb : CallKind) (v : Values) → say_all (arguments_of verb) (only (arguments_of verb) v) no_values ≡ only (arguments_of verb) v
kept Map v = refl
kept MapAny v = refl
kept MapNew v = refl
kept Unmap v = refl
kept Protect v = refl
kept Populate v = refl
kept Fault v = refl
kept Open v = refl
kept Close v = refl
kept Dup v = refl
kept Dup2 v = refl
kept Get v = refl
kept Remap v = refl
kept Signal v = refl

kept_ranged : (version : Version) (verb : CallKind) (v : Values) → AllByRecursion (IsInRange version v) (arguments_of verb) → AllByRecursion (IsInRange version (only (arguments_of verb) v)) (arguments_of verb)
kept_ranged version Map v each = each
kept_ranged version MapAny v each = each
kept_ranged version MapNew v each = each
kept_ranged version Unmap v each = each
kept_ranged version Protect v each = each
kept_ranged version Populate v each = each
kept_ranged version Fault v each = each
kept_ranged version Open v each = each
kept_ranged version Close v each = each
kept_ranged version Dup v each = each
kept_ranged version Dup2 v each = each
kept_ranged version Get v each = each
kept_ranged version Remap v each = each
kept_ranged version Signal v each = each

-- any isn't a number
not_any : (n : ℕ) → n < 2 ^ 32 → bytes_eq (decimal n) (codes "any") ≡ false
not_any n fits = go (cases_Bool (bytes_eq (decimal n) (codes "any")))
  where
    go : (bytes_eq (decimal n) (codes "any") ≡ true) ⊎ (bytes_eq (decimal n) (codes "any") ≡ false) → bytes_eq (decimal n) (codes "any") ≡ false
    go (inl same) = let read : None ≡ Some n = sym (ap number (text_same (decimal n) (codes "any") same)) ∙ number-decimal n fits in cc
    go (inr other) = other

-- a verb's word and those behind it
record IsBegun (version : Version) (is_space : Bool) (mode : Mode) (verb : CallKind) (arguments : List (List ℕ)) : Type 0 where
  word : List ℕ
  behind : List (List ℕ)
  words : words (verb_text verb) ++ arguments ≡ word ∷ behind
  is : call_on version is_space mode word behind ≡ call_with version mode (record { verb = verb; behind = arguments })

begun : (version : Version) (is_space : Bool) (mode : Mode) (verb : CallKind) (v : Values) → is_on_kind version is_space verb ≡ true → AllByRecursion (IsInRange version v) (arguments_of verb) → IsBegun version is_space mode verb (map (argument_text v) (arguments_of verb))
begun version true mode Map v on each = record { word = codes "map"; behind = map (argument_text v) (arguments_of Map); words = refl; is = rw (not_any v.first each.0) refl }
begun version true mode MapAny v on each = record { word = codes "map"; behind = codes "any" ∷ map (argument_text v) (arguments_of MapAny); words = refl; is = refl }
begun version true mode MapNew v on each = record { word = codes "mapnew"; behind = map (argument_text v) (arguments_of MapNew); words = refl; is = refl }
begun version true mode Unmap v on each = record { word = codes "unmap"; behind = map (argument_text v) (arguments_of Unmap); words = refl; is = refl }
begun version true mode Protect v on each = record { word = codes "protect"; behind = map (argument_text v) (arguments_of Protect); words = refl; is = refl }
begun version true mode Populate v on each = record { word = codes "populate"; behind = map (argument_text v) (arguments_of Populate); words = refl; is = refl }
begun version true mode Fault v on each = record { word = codes "fault"; behind = map (argument_text v) (arguments_of Fault); words = refl; is = refl }
begun One true mode Remap v on each = cc
begun Two true mode Remap v on each = record { word = codes "remap"; behind = map (argument_text v) (arguments_of Remap); words = refl; is = refl }
begun version true mode Signal v on each = record { word = codes "signal"; behind = map (argument_text v) (arguments_of Signal); words = refl; is = refl }
begun version true mode Open v on each = cc
begun version true mode Close v on each = cc
begun version true mode Dup v on each = cc
begun version true mode Dup2 v on each = cc
begun version true mode Get v on each = cc
begun version false mode Open v on each = record { word = codes "open"; behind = map (argument_text v) (arguments_of Open); words = refl; is = refl }
begun version false mode Close v on each = record { word = codes "close"; behind = map (argument_text v) (arguments_of Close); words = refl; is = refl }
begun version false mode Dup v on each = record { word = codes "dup"; behind = map (argument_text v) (arguments_of Dup); words = refl; is = refl }
begun version false mode Dup2 v on each = record { word = codes "dup2"; behind = map (argument_text v) (arguments_of Dup2); words = refl; is = refl }
begun version false mode Get v on each = record { word = codes "get"; behind = map (argument_text v) (arguments_of Get); words = refl; is = refl }
begun version false mode Signal v on each = record { word = codes "signal"; behind = map (argument_text v) (arguments_of Signal); words = refl; is = refl }
begun version false mode Map v on each = cc
begun version false mode MapAny v on each = cc
begun version false mode MapNew v on each = cc
begun version false mode Unmap v on each = cc
begun version false mode Protect v on each = cc
begun version false mode Populate v on each = cc
begun version false mode Fault v on each = cc
begun version false mode Remap v on each = cc

-- the call of a verb, from the words of its arguments
call_with-text : (version : Version) (mode : Mode) (verb : CallKind) (v : Values) → takes_mode verb mode ≡ true → AllByRecursion (IsInRange version v) (arguments_of verb)
    → call_with version mode (record { verb = verb; behind = map (argument_text (only (arguments_of verb) v)) (arguments_of verb) }) ≡ Ok (call_words_of verb mode (only (arguments_of verb) v))
call_with-text version mode verb v moded each =
    let counted : (length (map (argument_text (only (arguments_of verb) v)) (arguments_of verb)) == length (arguments_of verb)) ≡ true = same_length (arguments_of verb) in
    rw (moded, counted, with_arguments-text version (arguments_of verb) (only (arguments_of verb) v) no_values (kept_ranged version verb v each), kept verb v) refl
  where
    same_length : (arguments : List Argument) → (length (map (argument_text (only (arguments_of verb) v)) arguments) == length arguments) ≡ true
    same_length arguments = rw length-map (grind (arith, nat_tests))

verb_clean : (verb : CallKind) → list_all is_clean (verb_text verb) ≡ true
verb_clean Map = refl
verb_clean MapAny = refl
verb_clean MapNew = refl
verb_clean Unmap = refl
verb_clean Protect = refl
verb_clean Populate = refl
verb_clean Fault = refl
verb_clean Open = refl
verb_clean Close = refl
verb_clean Dup = refl
verb_clean Dup2 = refl
verb_clean Get = refl
verb_clean Remap = refl
verb_clean Signal = refl

-- the words of a call's text, and what they are read as
pub record IsCallText (version : Version) (is_space : Bool) (w : CallWords) : Type 0 where
  pub word : List ℕ
  pub behind : List (List ℕ)
  pub words : words (verb_and_arguments w) ≡ word ∷ behind
  pub clean : list_all is_clean (verb_and_arguments w) ≡ true
  pub is : call_on version is_space (mode_of w) word behind ≡ Ok w

pub call_text_is : (version : Version) (is_space : Bool) (w : CallWords) → IsCall version is_space w → IsCallText version is_space w
call_text_is version is_space w call =
    let v = only (arguments_of call.verb) call.values in
    let small = only_small version (arguments_of call.verb) call.values call.ranged in
    let in_range = kept_ranged version call.verb call.values call.ranged in
    let read = fields call.verb call.mode v small in
    let text : verb_and_arguments w ≡ verb_text call.verb ++ arguments_text v (arguments_of call.verb) = rw (call.words, read.0, read.1) refl in
    let start = begun version is_space call.mode call.verb v call.known in_range in
    record {
      word = start.word;
      behind = start.behind;
      words = ap words text ∙ words-arguments version (arguments_of call.verb) v (verb_text call.verb) in_range ∙ start.words;
      clean = rw text (clean-append (verb_text call.verb) (arguments_text v (arguments_of call.verb)) (verb_clean call.verb) (clean-arguments version (arguments_of call.verb) v in_range));
      is = ap (λ m. call_on version is_space m start.word start.behind) (ap mode_of call.words ∙ mode_kept call.verb call.mode v small) ∙ start.is ∙ call_with-text version call.mode call.verb call.values call.moded call.ranged ∙ ap Ok (sym call.words);
    }
