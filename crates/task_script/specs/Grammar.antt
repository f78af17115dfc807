-- The grammar: from a text to a script, or to its first refused line with the reason.
use Rattle.std.specs.Prelude.{ℕ, ◌+◌, nat_lt, nat_le, not, ◌||◌, Bool, true, false, List, [], ◌∷◌, ◌++◌, slice_get, length, position, is_some, ok_or, if◌then◌else◌, Option, Some, None, Result, Ok}
use Rattle.std.specs.Prelude.{Err, codes}
use Rattle.std.specs.List.{list_all}
use Rattle.std.specs.Option.{option_map_or}
use Rattle.std.specs.Str.{bytes_eq}
use Rattle.word_bits.specs.declared.call.Mode.TheVariants.{Int, Try}
use Rattle.task_script.specs.declared.script.Line.{Line}
use Rattle.task_script.specs.declared.reason.Reason.TheVariants.{Version as NoVersion}
use Rattle.task_script.specs.Cuts.{is_empty, is_plain, lines, uncommented, without_return, words}
use Rattle.task_script.specs.declared.token.Keyword.TheVariants.{Version as KVersion, Space as KSpace, Table as KTable, Task as KTask, Int as KInt, Try as KTry}
use Rattle.task_script.specs.Tokens.{is_name, keyword_of}
use Rattle.task_script.specs.Verbs.{and_then, call_on}
use Rattle.task_script.specs.Versions.{is_second, most_objects, most_tasks}
use Rattle.task_script.specs.Scripts.{Declared, Listing, nothing}
use Rattle.task_script.specs.Types.{CallWords, Mode, Plain, Two, Reason, TooLong, Byte, Words, Place, Name, Twice, Limit, Unknown, Keyword}

-- a line that is accepted gives the script with it, any other a reason
abbrev pub Accepted : Type 0
Accepted = Result Listing Reason

-- where the name is declared
abbrev pub place_of : List ℕ → List Declared → Option ℕ
place_of name objects = position (λ d. bytes_eq name d.name) objects

-- a line with words was read: each leaves the second version, an object or a task
abbrev pub is_begun : Listing → Bool
is_begun s = is_second s.version || not (is_empty s.objects) || not (is_empty s.tasks)

-- version 2, in front of all else
abbrev pub version_line : Listing → List (List ℕ) → Accepted
version_line s (word ∷ []) =
    if not (bytes_eq word (codes "2")) then Err NoVersion
    else if is_begun s then Err Place
    else Ok (record s { version = Two })
version_line s ws = Err NoVersion

-- space NAME or table NAME, in front of all tasks
abbrev pub declare_line : (is_space : Bool) → Listing → List (List ℕ) → Accepted
declare_line is_space s (name ∷ []) =
    if not (is_empty s.tasks) then Err Place
    else if not (is_name name) then Err Name
    else if is_some (place_of name s.objects) then Err Twice
    else if nat_le (most_objects s.version) (length s.objects) then Err Limit
    else Ok (record { version = s.version; objects = s.objects ++ record { name = name; is_space = is_space } ∷ []; tasks = s.tasks })
declare_line is_space s ws = Err Words

-- task, alone
abbrev pub task_line : Listing → List (List ℕ) → Accepted
task_line s [] = if nat_le (most_tasks s.version) (length s.tasks) then Err Limit else Ok (record { version = s.version; objects = s.objects; tasks = s.tasks ++ [] ∷ [] })
task_line s (word ∷ ws) = Err Words

-- one more call of the last task
abbrev pub with_call : List (List Line) → Line → List (List Line)
with_call [] line = []
with_call (calls ∷ []) line = (calls ++ line ∷ []) ∷ []
with_call (calls ∷ more ∷ others) line = calls ∷ with_call (more ∷ others) line

abbrev pub line_of : ℕ → CallWords → Line
line_of object w = record { object = object; words = w.a ∷ w.b ∷ [] }

-- whether the object at a place is a space
abbrev pub is_space_at : List Declared → ℕ → Bool
is_space_at objects place = option_map_or (λ d. d.is_space) (slice_get objects place) false

-- a call on a declared object, from the words behind its name
abbrev pub object_line : Mode → Listing → ℕ → List (List ℕ) → Accepted
object_line mode s object [] = Err Words
object_line mode s object (verb ∷ arguments) =
    and_then (call_on s.version (is_space_at s.objects object) mode verb arguments) (λ w. Ok (record { version = s.version; objects = s.objects; tasks = with_call s.tasks (line_of object w) }))

-- NAME and a call, behind the mode
abbrev pub call_line : Mode → Listing → List (List ℕ) → Accepted
call_line mode s [] = Err Words
call_line mode s (name ∷ ws) =
    if is_empty s.tasks then Err Place
    else if not (is_name name) then Err Name
    else and_then (ok_or (place_of name s.objects) Unknown) (λ object. object_line mode s object ws)

-- the script after one more line, from its first word and those behind it
abbrev pub line_of_words : Option Keyword → Listing → List ℕ → List (List ℕ) → Accepted
line_of_words (Some KVersion) s word ws = version_line s ws
line_of_words (Some KSpace) s word ws = declare_line true s ws
line_of_words (Some KTable) s word ws = declare_line false s ws
line_of_words (Some KTask) s word ws = task_line s ws
line_of_words (Some KInt) s word ws = call_line Int s ws
line_of_words (Some KTry) s word ws = call_line Try s ws
line_of_words None s word ws = call_line Plain s (word ∷ ws)

-- the script after one more line of these words
abbrev pub line_after : Listing → List (List ℕ) → Accepted
line_after s [] = Ok s
line_after s (word ∷ ws) = line_of_words (keyword_of word) s word ws

-- the words that a line says, without its return and its comment
abbrev pub said : List ℕ → List ℕ
said line = uncommented (without_return line)

-- the script after one more line of these bytes
abbrev pub text_after : Listing → List ℕ → Accepted
text_after s line = if list_all is_plain (said line) then line_after s (words (said line)) else Err Byte

pub record Refusal : Type 0 where
  pub line : ℕ
  pub reason : Reason

-- what is read behind line n, unless it was refused
abbrev pub then_lines : ℕ → Accepted → (Listing → Result Listing Refusal) → Result Listing Refusal
then_lines n (Ok s) rest = rest s
then_lines n (Err reason) rest = Err (record { line = n; reason = reason })

-- the lines from number n on
abbrev pub lines_after : ℕ → Listing → List (List ℕ) → Result Listing Refusal
lines_after n s [] = Ok s
lines_after n s (l ∷ ls) = then_lines n (text_after s l) (λ t. lines_after (n + 1) t ls)

-- the script that a text is, or its first refused line; line 0 stands for the whole of a text that is too long
abbrev pub script_of : List ℕ → Result Listing Refusal
script_of text =
    if nat_lt 1048576 (length text) then Err (record { line = 0; reason = TooLong })
    else lines_after 1 nothing (lines text)
