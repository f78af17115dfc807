-- What the words say is what clap finds in them.
use Rattle.std.proofs.Common.{◌≡◌, ℕ, zero, suc, arith, Bool, true, false, List, [], ◌∷◌, refl, sym, ap, ◌∙◌, subst, codes, Option, Some, None, option_map, option_and_then, ◌⊎◌, inl, inr, Result, Err}
use Rattle.std.specs.Prelude.{find, ok_or}
use Rattle.std.specs.Option.{option_map_or}
use Rattle.std.specs.Borrow.{Bor}
use Rattle.std.specs.Str.{bytes_eq}
use Rattle.std.proofs.lemmas.Bool.{false≢true, or_cases}
use Rattle.std.proofs.lemmas.Slice.Eq.{bytes_eq-Decides}
use Rattle.clap.specs.Facts.{Entry}
use Rattle.clap.specs.Faults.{fault_of, is_simple_and_free}
use Rattle.clap.specs.Kinds.{IsAmong, Kinds}
use Rattle.clap.specs.Matches.{first_value, matched_of}
use Rattle.clap.specs.Simple.{App, is_simple as is_simple_command, matches_of}
use Rattle.clap.specs.Walk.{Row, Text, first_of, row_of, rows_of}
use Rattle.clap.specs.declared.error.kind.ErrorKind.{ErrorKind}
use Rattle.clap.specs.declared.error.kind.ErrorKind.TheVariants.{OutOfMemory}
use Rattle.clap.specs.declared.parser.matches.Found.{Found}
use Rattle.clap.specs.declared.parser.matches.ValueSource.{ValueSource}
use Rattle.clap.proofs.OnLiterals.{clap_on_literals}
use Rattle.clap.proofs.WalkLemmas.{find_row, first_value-rows}
use Rattle.mm_program.specs.declared.options.Options.{Options}
use Rattle.mm_program.specs.declared.options.OptionsError.{OptionsError}
use Rattle.mm_program.specs.declared.options.OptionsError.TheVariants.{Misused}
use Rattle.mm_program.specs.CommandLine.{JoinedOptionsSay, LoneOptionsSay, QuestionsSayNothing, RepeatedOptionsSayNothing, SplitOptionsSay, is_from_words, is_used, number_if_used, number_or, number_up_to, options_from, options_of, options_with, the_command, unless_faulty}
use Rattle.mm_program.specs.Parsed.{Gives, error_of}

-- of this command clap says exactly what it takes
pub is_simple : is_simple_and_free the_command ≡ true
unfolding clap_on_literals
is_simple = refl

pub is_plain : is_simple_command the_command ≡ true
unfolding clap_on_literals
is_plain = refl

-- a value that was found is that of the option's row
pub value_found : (f : Found) (id : Text) (text : Option (Bor Text)) → option_map (λ s. s.now) text ≡ first_value f id → option_map (λ s. s.now) text ≡ first_of id (rows_of f)
value_found f id text is = is ∙ first_value-rows f id

source_of : (o : Option Entry) → option_map_or (λ r. is_from_words r.source) (option_map row_of o) false ≡ is_from_words (option_and_then (λ a. a.source) (option_map (λ e. e.1) o))
source_of None = refl
source_of (Some e) = refl

-- and so is where it came from
pub use_found : (f : Found) (id : Text) (source : Option ValueSource) → source ≡ option_and_then (λ a. a.source) (matched_of f id) → is_from_words source ≡ is_used id (rows_of f)
use_found f id source is =
    ap is_from_words is ∙ sym (source_of (find (λ e. bytes_eq e.0.now id) f.entries.items)) ∙ sym (ap (λ o. option_map_or (λ r. is_from_words r.source) o false) (find_row f.entries.items id))

-- words without a fault say what was found
pub words_taken : (words : List Text) (rows : List Row) → fault_of the_command words ≡ [] → rows ≡ matches_of the_command words → options_of words ≡ options_from rows
unfolding options_of
words_taken words rows none is = ap (λ kinds. unless_faulty kinds (options_from (matches_of the_command words))) none ∙ ap options_from (sym is)

faulty : (kinds : Kinds) (k : ErrorKind) (said : Option Options) → IsAmong k kinds → unless_faulty kinds said ≡ None
faulty [] k said among = absurd among
faulty (x ∷ xs) k said among = refl

-- words with a fault say nothing
words_refused : (words : List Text) (k : ErrorKind) → IsAmong k (fault_of the_command words) → options_of words ≡ None
unfolding options_of
words_refused words k among = faulty (fault_of the_command words) k (options_from (matches_of the_command words)) among

-- what was found is answered
pub gives_found : (said found : Option Options) (r : Result Options OptionsError) → said ≡ found → r ≡ ok_or found Misused → Gives said r
gives_found said None r is answered = subst (Gives said) (sym answered) is
gives_found said (Some o) r is answered = subst (Gives said) (sym answered) is

gives_none : (said : Option Options) (k : ErrorKind) → said ≡ None → Gives said (Err (error_of k))
gives_none said OutOfMemory is = tt
gives_none said k is = is

gives_memory : (said : Option Options) (k : ErrorKind) → k ≡ OutOfMemory → Gives said (Err (error_of k))
gives_memory said k is = subst (λ x. Gives said (Err (error_of x))) (sym is) tt

-- and a fault is
pub gives_fault : (words : List Text) (k : ErrorKind) → (k ≡ OutOfMemory) ⊎ IsAmong k (fault_of the_command words) → Gives (options_of words) (Err (error_of k))
gives_fault words k (inl is) = gives_memory (options_of words) k is
gives_fault words k (inr among) = gives_none (options_of words) k (words_refused words k among)

pub number_found : (f : Found) (id : Text) (text : Option (Bor Text)) (default limit : ℕ) (n o : Option ℕ) → option_map (λ s. s.now) text ≡ first_value f id → n ≡ number_or default limit (option_map (λ s. s.now) text) → n ≡ o
    → number_or default limit (first_of id (rows_of f)) ≡ o
number_found f id text default limit n o is read was = ap (number_or default limit) (sym (value_found f id text is)) ∙ sym read ∙ was

pub number_used : (f : Found) (id : Text) (text : Option (Bor Text)) (n o : Option (Option ℕ)) → option_map (λ s. s.now) text ≡ first_value f id → n ≡ number_if_used (option_map (λ s. s.now) text) → n ≡ o
    → number_if_used (first_of id (rows_of f)) ≡ o
number_used f id text n o is read was = ap number_if_used (sym (value_found f id text is)) ∙ sym read ∙ was

pub options_are : (f : Found) (spin overdue : Option ℕ) (generate : Option (Option ℕ)) (summary : Bool) → number_or 100 1000000 (first_of (codes "spin") (rows_of f)) ≡ spin → number_or 4 1000000 (first_of (codes "overdue") (rows_of f)) ≡ overdue
    → number_if_used (first_of (codes "generate") (rows_of f)) ≡ generate → is_used (codes "summary") (rows_of f) ≡ summary → options_from (rows_of f) ≡ options_with spin overdue generate summary
options_are f spin overdue generate summary a b c d =
    ap (λ o. options_with o (number_or 4 1000000 (first_of (codes "overdue") (rows_of f))) (number_if_used (first_of (codes "generate") (rows_of f))) (is_used (codes "summary") (rows_of f))) a
    ∙ ap (λ o. options_with spin o (number_if_used (first_of (codes "generate") (rows_of f))) (is_used (codes "summary") (rows_of f))) b
    ∙ ap (λ o. options_with spin overdue o (is_used (codes "summary") (rows_of f))) c
    ∙ ap (options_with spin overdue generate) d

-- the fault of a command that is this one
pub fault_found : (a : App) (words : List Text) (k j : ErrorKind) → a ≡ the_command → k ≡ j → (j ≡ OutOfMemory) ⊎ IsAmong j (fault_of a words) → (k ≡ OutOfMemory) ⊎ IsAmong k (fault_of the_command words)
fault_found a words k j is same fault = subst (λ b. (k ≡ OutOfMemory) ⊎ IsAmong k (fault_of b words)) is (subst (λ x. (x ≡ OutOfMemory) ⊎ IsAmong x (fault_of a words)) (sym same) fault)

-- who answers that the words are no command line says so of them
pub misused_says : (said : Option Options) (e : OptionsError) → e ≡ Misused → Gives said (Err e) → said ≡ None
misused_says said e is gives = subst (λ x. Gives said (Err x)) is gives

-- no words say what each option gives where it isn't used
pub no_words : options_of [] ≡ Some (record { spin = 100; overdue = 4; generate = None; summary = false })
unfolding options_of clap_on_literals
no_words = refl

pub joined_options_say : JoinedOptionsSay
unfolding options_of clap_on_literals
joined_options_say spin overdue generate = refl

pub lone_options_say : LoneOptionsSay
unfolding options_of clap_on_literals
lone_options_say value = (refl, refl, refl, refl, refl)

pub repeated_options_say_nothing : RepeatedOptionsSayNothing
unfolding options_of clap_on_literals
repeated_options_say_nothing value other = (refl, refl, refl, refl)

long_question : options_of (codes "--help" ∷ []) ≡ None
unfolding options_of clap_on_literals
long_question = refl

short_question : options_of (codes "-h" ∷ []) ≡ None
unfolding options_of clap_on_literals
short_question = refl

question : (word : Text) → (bytes_eq word (codes "--help") ≡ true) ⊎ (bytes_eq word (codes "-h") ≡ true) → options_of (word ∷ []) ≡ None
question word (inl is) = ap (λ (w : Text). options_of (w ∷ [])) ((bytes_eq-Decides word (codes "--help")).0 is) ∙ long_question
question word (inr is) = ap (λ (w : Text). options_of (w ∷ [])) ((bytes_eq-Decides word (codes "-h")).0 is) ∙ short_question

-- words that ask how to use the program say nothing
pub questions_say_nothing : QuestionsSayNothing
questions_say_nothing [] asks = absurd (false≢true asks)
questions_say_nothing (word ∷ []) asks = question word (or_cases (bytes_eq word (codes "--help")) (bytes_eq word (codes "-h")) asks)
questions_say_nothing (word ∷ other ∷ words) asks = absurd (false≢true asks)

-- a word without a letter is no option
pub empty_word_says_nothing : options_of ([] ∷ []) ≡ None
unfolding options_of clap_on_literals
empty_word_says_nothing = refl

pub split_options_say : SplitOptionsSay
unfolding options_of clap_on_literals
split_options_say zero rest l = (refl, refl, refl)
split_options_say (suc zero) rest l = (refl, refl, refl)
split_options_say (suc (suc zero)) rest l = (refl, refl, refl)
split_options_say (suc (suc (suc zero))) rest l = (refl, refl, refl)
split_options_say (suc (suc (suc (suc zero)))) rest l = (refl, refl, refl)
split_options_say (suc (suc (suc (suc (suc zero))))) rest l = (refl, refl, refl)
split_options_say (suc (suc (suc (suc (suc (suc zero)))))) rest l = (refl, refl, refl)
split_options_say (suc (suc (suc (suc (suc (suc (suc zero))))))) rest l = (refl, refl, refl)
split_options_say (suc (suc (suc (suc (suc (suc (suc (suc zero)))))))) rest l = (refl, refl, refl)
split_options_say (suc (suc (suc (suc (suc (suc (suc (suc (suc zero))))))))) rest l = (refl, refl, refl)
split_options_say (suc (suc (suc (suc (suc (suc (suc (suc (suc (suc n)))))))))) rest l = absurd (omega (arith, l))
