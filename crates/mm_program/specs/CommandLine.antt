-- The command line: four options, and which numbers they take; or a question how to use the program.
use Rattle.std.specs.Prelude.{◌≡◌, ℕ, ◌+◌, ◌-◌, ◌<◌, ◌^◌, ◌++◌, ◌||◌, nat_le, Bool, true, false, List, [], ◌∷◌, Option, Some, None, find, option_and_then, option_map, if◌then◌else◌, codes, drop, map}
use Rattle.std.specs.Prelude.{String, string_bytes, Result, Ok, Err}
use Rattle.std.specs.Option.{option_map_or}
use Rattle.std.specs.Str.{bytes_eq}
use Rattle.std.specs.Vec.Iter.{into_iter_items}
use Rattle.std.specs.declared.vec.IntoIter.{IntoIter}
use Rattle.clap.specs.Kinds.{Kinds}
use Rattle.clap.specs.Walk.{Row, Rule, Text, first_of}
use Rattle.clap.specs.Simple.{App, matches_of, new_app, new_rule, on_top, with_rule}
use Rattle.clap.specs.Faults.{fault_of}
use Rattle.clap.specs.declared.builder.action.ArgAction.TheVariants.{Set, SetTrue}
use Rattle.clap.specs.declared.parser.matches.ValueSource.{ValueSource}
use Rattle.clap.specs.declared.parser.matches.ValueSource.TheVariants.{CommandLine}
use Rattle.task_script.specs.Tokens.{number}
use Rattle.mm_program.specs.declared.options.Options.{Options}

-- --NAME VALUE or --NAME=VALUE
abbrev pub value_rule : (name : Text) → Rule
value_rule name = record (new_rule name) { long = Some name; action = Some Set }

-- --NAME
abbrev pub flag_rule : (name : Text) → Rule
flag_rule name = record (new_rule name) { long = Some name; action = Some SetTrue }

-- the words are those behind the program's name, and help is no option
abbrev pub no_options : App
no_options = on_top (λ s. record s { no_binary_name = true; disable_help_flag = true }) (new_app (codes "mm_main"))

abbrev pub the_command : App
the_command = with_rule (with_rule (with_rule (with_rule no_options (value_rule (codes "spin"))) (value_rule (codes "overdue"))) (value_rule (codes "generate"))) (flag_rule (codes "summary"))

-- the number that a text is, where it is at most the limit
abbrev pub number_up_to : (limit : ℕ) → Text → Option ℕ
number_up_to limit text = option_and_then (λ n. if nat_le n limit then Some n else None) (number text)

-- the number that an option gives, or what stands for it where it isn't used
abbrev pub number_or : (default limit : ℕ) → Option Text → Option ℕ
number_or default limit None = Some default
number_or default limit (Some text) = number_up_to limit text

-- none, or a number of 32 bits
abbrev pub number_if_used : Option Text → Option (Option ℕ)
number_if_used None = Some None
number_if_used (Some text) = option_map Some (number_up_to (2 ^ 32 - 1) text)

abbrev pub is_from_words : Option ValueSource → Bool
is_from_words (Some CommandLine) = true
is_from_words source = false

-- the words use the option
abbrev pub is_used : Text → List Row → Bool
is_used id rows = option_map_or (λ r. is_from_words r.source) (find (λ r. bytes_eq r.id id) rows) false

-- what the options say, if each value is a number in its range
abbrev pub options_with : (spin overdue : Option ℕ) → (generate : Option (Option ℕ)) → (summary : Bool) → Option Options
options_with (Some spin) (Some overdue) (Some generate) summary = Some (record { spin = spin; overdue = overdue; generate = generate; summary = summary })
options_with spin overdue generate summary = None

abbrev pub options_from : List Row → Option Options
options_from rows =
    options_with (number_or 100 1000000 (first_of (codes "spin") rows)) (number_or 4 1000000 (first_of (codes "overdue") rows)) (number_if_used (first_of (codes "generate") rows))
    (is_used (codes "summary") rows)

-- nothing where there is a fault
abbrev pub unless_faulty : Kinds → Option Options → Option Options
unless_faulty [] said = said
unless_faulty (kind ∷ kinds) said = None

-- what the words say, where the command takes them and each value is a number in its range
unfoldable pub options_of : (words : List Text) → Option Options
options_of words = unless_faulty (fault_of the_command words) (options_from (matches_of the_command words))

-- what the words of a command line say, each of them a text
abbrev pub said_by : {Z : Type 0} → List (String Z) → Option Options
said_by words = options_of (map string_bytes words)

-- what a whole line says by the words behind the program's name; nothing, where the line isn't all text
abbrev pub said_by_line : {Y Z E : Type 0} → Result (IntoIter (String Y) Z) E → Option Options
said_by_line (Ok line) = said_by (drop 1 (into_iter_items line))
said_by_line (Err e) = None

-- one word, --help or -h, asks how to use the program
abbrev pub is_question : (words : List Text) → Bool
is_question [] = false
is_question (word ∷ []) = bytes_eq word (codes "--help") || bytes_eq word (codes "-h")
is_question (word ∷ other ∷ words) = false

-- whether the words of a command line ask that
abbrev pub asks_help : {Z : Type 0} → List (String Z) → Bool
asks_help words = is_question (map string_bytes words)

-- whether the words behind the program's name do; a line that isn't all text asks nothing
abbrev pub line_asks_help : {Y Z E : Type 0} → Result (IntoIter (String Y) Z) E → Bool
line_asks_help (Ok line) = asks_help (drop 1 (into_iter_items line))
line_asks_help (Err e) = false

-- words that ask that say nothing as options
abbrev pub QuestionsSayNothing : Type 0
QuestionsSayNothing = (words : List Text) → is_question words ≡ true → options_of words ≡ None

-- an option that stands alone, its value joined to it, says it, and the others say their defaults; one -- may stand behind it
abbrev pub LoneOptionsSay : Type 0
LoneOptionsSay =
    (value : Text)
    → (options_of ((codes "--spin=" ++ value) ∷ []) ≡ options_with (number_up_to 1000000 value) (Some 4) (Some None) false)
    × (options_of ((codes "--overdue=" ++ value) ∷ []) ≡ options_with (Some 100) (number_up_to 1000000 value) (Some None) false)
    × (options_of ((codes "--generate=" ++ value) ∷ []) ≡ options_with (Some 100) (Some 4) (number_if_used (Some value)) false)
    × (options_of (codes "--summary" ∷ []) ≡ options_with (Some 100) (Some 4) (Some None) true)
    × (options_of (codes "--summary" ∷ codes "--" ∷ []) ≡ options_with (Some 100) (Some 4) (Some None) true)

-- an option that is used twice, whatever its values, makes the words no command line
abbrev pub RepeatedOptionsSayNothing : Type 0
RepeatedOptionsSayNothing =
    (value other : Text)
    → (options_of ((codes "--spin=" ++ value) ∷ (codes "--spin=" ++ other) ∷ []) ≡ None)
    × (options_of ((codes "--overdue=" ++ value) ∷ (codes "--overdue=" ++ other) ∷ []) ≡ None)
    × (options_of ((codes "--generate=" ++ value) ∷ (codes "--generate=" ++ other) ∷ []) ≡ None)
    × (options_of (codes "--summary" ∷ codes "--summary" ∷ []) ≡ None)

-- each option, joined to its value, says it
abbrev pub JoinedOptionsSay : Type 0
JoinedOptionsSay =
    (spin overdue generate : Text) → options_of ((codes "--spin=" ++ spin) ∷ (codes "--overdue=" ++ overdue) ∷ (codes "--generate=" ++ generate) ∷ codes "--summary" ∷ [])
    ≡ options_with (number_up_to 1000000 spin) (number_up_to 1000000 overdue) (number_if_used (Some generate)) true

-- an option that stands alone says its value also where that is a word of its own, which a digit begins
abbrev pub SplitOptionsSay : Type 0
SplitOptionsSay =
    (digit : ℕ) (rest : Text) → digit < 10
    → (options_of (codes "--spin" ∷ ((48 + digit) ∷ rest) ∷ []) ≡ options_with (number_up_to 1000000 ((48 + digit) ∷ rest)) (Some 4) (Some None) false)
    × (options_of (codes "--overdue" ∷ ((48 + digit) ∷ rest) ∷ []) ≡ options_with (Some 100) (number_up_to 1000000 ((48 + digit) ∷ rest)) (Some None) false)
    × (options_of (codes "--generate" ∷ ((48 + digit) ∷ rest) ∷ []) ≡ options_with (Some 100) (Some 4) (number_if_used (Some ((48 + digit) ∷ rest))) false)
