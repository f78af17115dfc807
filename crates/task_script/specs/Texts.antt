-- The text of calls and of scripts.
use Rattle.std.specs.Prelude.{ℕ, ◌/◌, ◌%◌, ◌==◌, List, [], ◌∷◌, ◌++◌, slice_get, flat_map, if◌then◌else◌, Option, Some, None, codes, decimal}
use Rattle.std.specs.Option.{option_map_or}
use Rattle.word_bits.specs.declared.call.Mode.TheVariants.{Int, Try}
use Rattle.word_bits.specs.CallKinds.{kind_of_number}
use Rattle.word_bits.specs.Calls.{mode_of, kind_in, first_in, second_in, third_in, prot_in, access_in}
use Rattle.task_script.specs.declared.script.Line.{Line}
use Rattle.task_script.specs.Verbs.{verb_text, arguments_of}
use Rattle.task_script.specs.Scripts.{Declared, Listing, call_words}
use Rattle.task_script.specs.Types.{CallWords, Mode, Plain, CallKind, Argument, First, Second, Third, File, Target, Protection, AccessBit, Values}
use Rattle.task_script.specs.Versions.{version_text}

-- what stands in front of a call of this mode
abbrev pub mode_text : Mode → List ℕ
mode_text Plain = []
mode_text Int = codes "int "
mode_text Try = codes "try "

-- the letter of a bit, or a dash
abbrev pub letter : ℕ → ℕ → ℕ → ℕ
letter bits bit name = if (bits / bit) % 2 == 1 then name else 45

-- rwx, with a dash for each missing bit
abbrev pub prot_text : ℕ → List ℕ
prot_text prot = letter prot 1 114 ∷ letter prot 2 119 ∷ letter prot 4 120 ∷ []

-- r, w or x
abbrev pub access_text : ℕ → List ℕ
access_text access = if access == 1 then codes "r" else if access == 2 then codes "w" else codes "x"

-- what the words of a call say
abbrev pub values_of : CallWords → Values
values_of w = record { first = first_in w; second = second_in w; third = third_in w; prot = prot_in w; access = access_in w }

-- an argument of these values
abbrev pub argument_text : Values → Argument → List ℕ
argument_text v First = decimal v.first
argument_text v Second = decimal v.second
argument_text v Third = decimal v.third
argument_text v File = decimal v.first
argument_text v Target = decimal v.first
argument_text v Protection = prot_text v.prot
argument_text v AccessBit = access_text v.access

-- the arguments, each behind a space
abbrev pub arguments_text : Values → List Argument → List ℕ
arguments_text v arguments = flat_map (λ a. 32 ∷ argument_text v a) arguments

abbrev pub bare_text : Values → Option CallKind → List ℕ
bare_text v None = []
bare_text v (Some verb) = verb_text verb ++ arguments_text v (arguments_of verb)

-- the verb and the arguments of a call
abbrev pub verb_and_arguments : CallWords → List ℕ
verb_and_arguments w = bare_text (values_of w) (kind_of_number (kind_in w))

-- a call without its object: its mode, its verb and its arguments
abbrev pub call_text : CallWords → List ℕ
call_text w = mode_text (mode_of w) ++ verb_and_arguments w

-- the declaration of an object, and its end of line
abbrev pub declaration_text : Declared → List ℕ
declaration_text d = (if d.is_space then codes "space " else codes "table ") ++ d.name ++ codes "\n"

abbrev pub name_at : List Declared → ℕ → List ℕ
name_at objects object = option_map_or (λ d. d.name) (slice_get objects object) []

-- a call on an object of this name, as a line of a script
abbrev pub named_text : List ℕ → CallWords → List ℕ
named_text name w = mode_text (mode_of w) ++ name ++ codes " " ++ verb_and_arguments w ++ codes "\n"

abbrev pub line_text : List Declared → Line → List ℕ
line_text objects l = named_text (name_at objects l.object) (call_words l)

abbrev pub task_text : List Declared → List Line → List ℕ
task_text objects ls = codes "task\n" ++ flat_map (line_text objects) ls

-- the declarations of a script, then task by task its calls
abbrev pub body_text : Listing → List ℕ
body_text s = flat_map declaration_text s.objects ++ flat_map (task_text s.objects) s.tasks

-- the text of a script: its version, and what follows
abbrev pub canonical_text : Listing → List ℕ
canonical_text s = version_text s.version ++ body_text s
