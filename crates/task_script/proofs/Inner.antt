-- The text of a number and of a call stands within a line, in front of the equals sign.
use Rattle.std.proofs.Common.{◌≡◌, ℕ, ◌/◌, ◌%◌, ◌==◌, ◌&&◌, Bool, true, false, cond, not, zero, suc, List, [], ◌∷◌, ◌++◌, refl, ◌∙◌, arith, codes, Option, Some, None}
use Rattle.std.specs.Prelude.{decimal}
use Rattle.std.specs.Char.{is_ascii_digit}
use Rattle.std.specs.List.{list_all}
use Rattle.std.specs.Fmt.{digits, digits_onto, digit_glyph}
use Rattle.std.proofs.lemmas.Bool.{and_from}
use Rattle.std.proofs.lemmas.Bool.Decides.{nat_tests}
use Rattle.std.proofs.lemmas.List.Folds.{list_all-append}
use Rattle.word_bits.specs.declared.call.Mode.TheVariants.{Int, Try}
use Rattle.word_bits.specs.CallKinds.{kind_of_number}
use Rattle.word_bits.specs.Calls.{mode_of}
use Rattle.task_script.specs.Verbs.{verb_text, arguments_of}
use Rattle.task_script.specs.Texts.{mode_text, letter, prot_text, access_text, values_of, argument_text, arguments_text, bare_text, call_text}
use Rattle.task_script.specs.Types.{CallWords, Mode, Plain, CallKind, Map, MapAny, MapNew, Unmap, Protect, Populate, Fault, Open, Close, Dup, Dup2, Get, Remap, Signal, Argument, First}
use Rattle.task_script.specs.Types.{Second, Third, File, Target, Protection, AccessBit, Values}

-- no line feed and no equals sign
abbrev pub is_inner : ℕ → Bool
is_inner b = not (b == 10) && not (b == 61)

abbrev pub IsInner : List ℕ → Type 0
IsInner bs = list_all is_inner bs ≡ true

pub inner_both : (xs ys : List ℕ) → IsInner xs → IsInner ys → IsInner (xs ++ ys)
inner_both xs ys one two = list_all-append is_inner xs ys ∙ and_from (list_all is_inner xs) (list_all is_inner ys) one two

abbrev pub BeginsWithDigit : List ℕ → Type 0
BeginsWithDigit [] = ⊥
BeginsWithDigit (b ∷ bs) = is_ascii_digit b ≡ true

digit_glyph-digit : (n : ℕ) → is_ascii_digit (digit_glyph false (n % 10)) ≡ true
digit_glyph-digit n = grind (arith, nat_tests)

digit_inner : (b : ℕ) → is_ascii_digit b ≡ true → is_inner b ≡ true
digit_inner b is = grind (arith, nat_tests)

digits_inner : (k n : ℕ) (acc : List ℕ) → IsInner acc → IsInner (digits_onto k 10 false n acc)
digits_inner zero n acc inner = inner
digits_inner (suc k) n acc inner = go (n / 10 == 0) (and_from (is_inner (digit_glyph false (n % 10))) (list_all is_inner acc) (digit_inner (digit_glyph false (n % 10)) (digit_glyph-digit n)) inner) (λ more. digits_inner k (n / 10) (digit_glyph false (n % 10) ∷ acc) more)
  where
    go : (t : Bool) → IsInner (digit_glyph false (n % 10) ∷ acc) → (IsInner (digit_glyph false (n % 10) ∷ acc) → IsInner (digits_onto k 10 false (n / 10) (digit_glyph false (n % 10) ∷ acc)))
        → IsInner (cond t (digit_glyph false (n % 10) ∷ acc) (digits_onto k 10 false (n / 10) (digit_glyph false (n % 10) ∷ acc)))
    go true one more = one
    go false one more = more one

digits_begin : (k n : ℕ) (acc : List ℕ) → BeginsWithDigit acc → BeginsWithDigit (digits_onto k 10 false n acc)
digits_begin zero n acc begins = begins
digits_begin (suc k) n acc begins = go (n / 10 == 0) (digits_begin k (n / 10) (digit_glyph false (n % 10) ∷ acc) (digit_glyph-digit n))
  where
    go : (t : Bool) → BeginsWithDigit (digits_onto k 10 false (n / 10) (digit_glyph false (n % 10) ∷ acc)) → BeginsWithDigit (cond t (digit_glyph false (n % 10) ∷ acc) (digits_onto k 10 false (n / 10) (digit_glyph false (n % 10) ∷ acc)))
    go true more = digit_glyph-digit n
    go false more = more

pub decimal_inner : (n : ℕ) → IsInner (decimal n)
unfolding digits
decimal_inner n = digits_inner 64 n [] refl

pub decimal_begins : (n : ℕ) → BeginsWithDigit (decimal n)
unfolding digits
decimal_begins n = go (n / 10 == 0) (digits_begin 63 (n / 10) (digit_glyph false (n % 10) ∷ []) (digit_glyph-digit n))
  where
    go : (t : Bool) → BeginsWithDigit (digits_onto 63 10 false (n / 10) (digit_glyph false (n % 10) ∷ [])) → BeginsWithDigit (cond t (digit_glyph false (n % 10) ∷ []) (digits_onto 63 10 false (n / 10) (digit_glyph false (n % 10) ∷ [])))
    go true more = digit_glyph-digit n
    go false more = more

letter_inner : (bits bit name : ℕ) → is_inner name ≡ true → is_inner (letter bits bit name) ≡ true
letter_inner bits bit name inner = go ((bits / bit) % 2 == 1)
  where
    go : (t : Bool) → is_inner (cond t name 45) ≡ true
    go true = inner
    go false = refl

pub prot_inner : (prot : ℕ) → IsInner (prot_text prot)
prot_inner prot = rw (letter_inner prot 1 114 refl, letter_inner prot 2 119 refl, letter_inner prot 4 120 refl) refl

access_inner : (access : ℕ) → IsInner (access_text access)
access_inner access = go (access == 1) (access == 2)
  where
    go : (t u : Bool) → IsInner (cond t (codes "r") (cond u (codes "w") (codes "x")))
    go true u = refl
    go false true = refl
    go false false = refl

argument_inner : (v : Values) (a : Argument) → IsInner (argument_text v a)
argument_inner v First = decimal_inner v.first
argument_inner v Second = decimal_inner v.second
argument_inner v Third = decimal_inner v.third
argument_inner v File = decimal_inner v.first
argument_inner v Target = decimal_inner v.first
argument_inner v Protection = prot_inner v.prot
argument_inner v AccessBit = access_inner v.access

arguments_inner : (v : Values) (arguments : List Argument) → IsInner (arguments_text v arguments)
arguments_inner v [] = refl
arguments_inner v (a ∷ arguments) = inner_both (32 ∷ argument_text v a) (arguments_text v arguments) (argument_inner v a) (arguments_inner v arguments)

verb_inner : (verb : CallKind) → IsInner (verb_text verb)
verb_inner Map = refl
verb_inner MapAny = refl
verb_inner MapNew = refl
verb_inner Unmap = refl
verb_inner Protect = refl
verb_inner Populate = refl
verb_inner Fault = refl
verb_inner Open = refl
verb_inner Close = refl
verb_inner Dup = refl
verb_inner Dup2 = refl
verb_inner Get = refl
verb_inner Remap = refl
verb_inner Signal = refl

bare_inner : (v : Values) (verb : Option CallKind) → IsInner (bare_text v verb)
bare_inner v None = refl
bare_inner v (Some verb) = inner_both (verb_text verb) (arguments_text v (arguments_of verb)) (verb_inner verb) (arguments_inner v (arguments_of verb))

mode_inner : (mode : Mode) → IsInner (mode_text mode)
mode_inner Plain = refl
mode_inner Int = refl
mode_inner Try = refl

pub call_inner : (w : CallWords) → IsInner (call_text w)
call_inner w = inner_both (mode_text (mode_of w)) (bare_text (values_of w) (kind_of_number (w.b % 256))) (mode_inner (mode_of w)) (bare_inner (values_of w) (kind_of_number (w.b % 256)))
