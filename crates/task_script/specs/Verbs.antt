-- The calls that a script can name: their verbs and arguments, and the words that they are kept in.
use Rattle.std.specs.Prelude.{ℕ, ◌==◌, ◌&&◌, nat_lt, not, Bool, true, false, List, [], ◌∷◌, length, if◌then◌else◌, Option, Some, None, ok_or, Result, Ok, Err, codes}
use Rattle.std.specs.Str.{bytes_eq}
use Rattle.word_bits.specs.declared.call.Mode.TheVariants.{Int, Try}
use Rattle.word_bits.specs.CallKinds.{kind_number}
use Rattle.word_bits.specs.Calls.{words_of, with_third, mode_number}
use Rattle.task_script.specs.declared.version.Version.{Version}
use Rattle.task_script.specs.declared.reason.Reason.TheVariants.{Mode as NoMode}
use Rattle.task_script.specs.Tokens.{number, access, prot}
use Rattle.task_script.specs.Types.{CallWords, Mode, CallKind, Map, MapAny, MapNew, Unmap, Protect, Populate, Fault, Open, Close, Dup, Dup2, Get, Remap, Signal, Argument, First, Second}
use Rattle.task_script.specs.Types.{Third, File, Target, Protection, AccessBit, Values, Reason, Words, Call, Number, Limit, Prot, Access}
use Rattle.task_script.specs.Versions.{has_remap, most_tasks}

-- the verb of a call
abbrev pub verb_text : CallKind → List ℕ
verb_text Map = codes "map"
verb_text MapAny = codes "map any"
verb_text MapNew = codes "mapnew"
verb_text Unmap = codes "unmap"
verb_text Protect = codes "protect"
verb_text Populate = codes "populate"
verb_text Fault = codes "fault"
verb_text Open = codes "open"
verb_text Close = codes "close"
verb_text Dup = codes "dup"
verb_text Dup2 = codes "dup2"
verb_text Get = codes "get"
verb_text Remap = codes "remap"
verb_text Signal = codes "signal"

-- the arguments behind the verb
abbrev pub arguments_of : CallKind → List Argument
arguments_of Map = First ∷ Second ∷ Protection ∷ []
arguments_of MapAny = First ∷ Protection ∷ []
arguments_of MapNew = First ∷ Second ∷ Protection ∷ []
arguments_of Unmap = First ∷ Second ∷ []
arguments_of Protect = First ∷ Second ∷ Protection ∷ []
arguments_of Populate = First ∷ Second ∷ Protection ∷ []
arguments_of Fault = First ∷ AccessBit ∷ []
arguments_of Open = File ∷ []
arguments_of Close = First ∷ []
arguments_of Dup = First ∷ []
arguments_of Dup2 = First ∷ Second ∷ []
arguments_of Get = First ∷ []
arguments_of Remap = First ∷ Second ∷ Third ∷ []
arguments_of Signal = Target ∷ []

-- a call on a space, or else one on a table; a signal is on both, and a remap is there from version 2 on
abbrev pub is_on_kind : Version → (is_space : Bool) → CallKind → Bool
is_on_kind version is_space Signal = true
is_on_kind version is_space Remap = is_space && has_remap version
is_on_kind version is_space Open = not is_space
is_on_kind version is_space Close = not is_space
is_on_kind version is_space Dup = not is_space
is_on_kind version is_space Dup2 = not is_space
is_on_kind version is_space Get = not is_space
is_on_kind version is_space verb = is_space

-- a signal has no mode
abbrev pub takes_mode : CallKind → Mode → Bool
takes_mode Signal Int = false
takes_mode Signal Try = false
takes_mode verb mode = true

-- 0 for each value
abbrev pub no_values : Values
no_values = record { first = 0; second = 0; third = 0; prot = 0; access = 0 }

-- the words of a call
abbrev pub call_words_of : CallKind → Mode → Values → CallWords
call_words_of verb mode v = with_third (words_of (kind_number verb) v.first v.second v.prot v.access (mode_number mode)) v.third

-- what is done with a value, unless it was refused
abbrev pub and_then : {A B : Type 0} → Result A Reason → (A → Result B Reason) → Result B Reason
and_then (Ok a) next = next a
and_then (Err reason) next = Err reason

-- a number below a limit, refused for this reason where it isn't
abbrev pub number_below : ℕ → Reason → List ℕ → Result ℕ Reason
number_below limit reason word = and_then (ok_or (number word) Number) (λ n. if nat_lt n limit then Ok n else Err reason)

-- what the arguments in front say, and what this word says as the next one
abbrev pub with_argument : Version → Argument → List ℕ → Values → Result Values Reason
with_argument version First word v = and_then (ok_or (number word) Number) (λ n. Ok (record v { first = n }))
with_argument version Second word v = and_then (ok_or (number word) Number) (λ n. Ok (record v { second = n }))
with_argument version Third word v = and_then (ok_or (number word) Number) (λ n. Ok (record v { third = n }))
with_argument version File word v = and_then (number_below 65536 Number word) (λ n. Ok (record v { first = n }))
with_argument version Target word v = and_then (number_below (most_tasks version) Limit word) (λ n. Ok (record v { first = n }))
with_argument version Protection word v = and_then (ok_or (prot word) Prot) (λ bits. Ok (record v { prot = bits }))
with_argument version AccessBit word v = and_then (ok_or (access word) Access) (λ bits. Ok (record v { access = bits }))

-- the same of all arguments, from the left
abbrev pub with_arguments : Version → List Argument → List (List ℕ) → Values → Result Values Reason
with_arguments version arguments [] v = Ok v
with_arguments version [] (w ∷ ws) v = Ok v
with_arguments version (a ∷ arguments) (w ∷ ws) v = and_then (with_argument version a w v) (with_arguments version arguments ws)

-- the same of as many words as there are arguments
abbrev pub counted_arguments : Version → List Argument → List (List ℕ) → Result Values Reason
counted_arguments version arguments ws =
    if length ws == length arguments then with_arguments version arguments ws no_values else Err Words

-- the verb of a call on a space that a word is
abbrev pub space_verb : Version → List ℕ → Option CallKind
space_verb version w =
    if bytes_eq w (codes "map") then Some Map
    else if bytes_eq w (codes "mapnew") then Some MapNew
    else if bytes_eq w (codes "unmap") then Some Unmap
    else if bytes_eq w (codes "protect") then Some Protect
    else if bytes_eq w (codes "populate") then Some Populate
    else if bytes_eq w (codes "fault") then Some Fault
    else if bytes_eq w (codes "remap") && has_remap version then Some Remap
    else if bytes_eq w (codes "signal") then Some Signal
    else None

-- the same of a table
abbrev pub table_verb : List ℕ → Option CallKind
table_verb w =
    if bytes_eq w (codes "open") then Some Open
    else if bytes_eq w (codes "close") then Some Close
    else if bytes_eq w (codes "dup") then Some Dup
    else if bytes_eq w (codes "dup2") then Some Dup2
    else if bytes_eq w (codes "get") then Some Get
    else if bytes_eq w (codes "signal") then Some Signal
    else None

-- the same of either
abbrev pub verb_of : Version → (is_space : Bool) → List ℕ → Option CallKind
verb_of version is_space w = if is_space then space_verb version w else table_verb w

-- a verb and what stands behind it, where map and any are one verb
pub record Begun : Type 0 where
  pub verb : CallKind
  pub behind : List (List ℕ)

abbrev pub with_any : CallKind → List (List ℕ) → Begun
with_any Map (w ∷ ws) = if bytes_eq w (codes "any") then record { verb = MapAny; behind = ws } else record { verb = Map; behind = w ∷ ws }
with_any verb ws = record { verb = verb; behind = ws }

-- the call of a verb with these arguments
abbrev pub call_with : Version → Mode → Begun → Result CallWords Reason
call_with version mode c =
    if not (takes_mode c.verb mode) then Err NoMode
    else if not (length c.behind == length (arguments_of c.verb)) then Err Words
    else and_then (with_arguments version (arguments_of c.verb) c.behind no_values) (λ v. Ok (call_words_of c.verb mode v))

-- a call on this kind of object, from its verb's word and what stands behind it
abbrev pub call_on : Version → (is_space : Bool) → Mode → List ℕ → List (List ℕ) → Result CallWords Reason
call_on version is_space mode w ws = and_then (ok_or (verb_of version is_space w) Call) (λ verb. call_with version mode (with_any verb ws))
