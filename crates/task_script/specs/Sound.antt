-- What every script is.
use Rattle.std.specs.Prelude.{◌≡◌, ℕ, ◌^◌, ◌<◌, ◌≤◌, ◌⊎◌, Bool, true, List, [], ◌∷◌, ◌++◌, length, slice_get, None, Some}
use Rattle.std.specs.List.{AllByRecursion}
use Rattle.task_script.specs.declared.script.Line.{Line}
use Rattle.task_script.specs.declared.version.Version.{Version}
use Rattle.task_script.specs.Tokens.{is_name}
use Rattle.task_script.specs.Verbs.{no_values, arguments_of, call_words_of, is_on_kind, takes_mode}
use Rattle.task_script.specs.Versions.{most_objects, most_tasks}
use Rattle.task_script.specs.Scripts.{Declared, Listing}
use Rattle.task_script.specs.Grammar.{line_of, place_of}
use Rattle.task_script.specs.Types.{CallWords, Mode, CallKind, Argument, First, Second, Third, File, Target, Protection, AccessBit, Values}

-- one of r 1, w 2, x 4
abbrev pub IsAccess : ℕ → Type 0
IsAccess bits = (bits ≡ 1) ⊎ (bits ≡ 2) ⊎ (bits ≡ 4)

-- what the argument says is in its range
abbrev pub IsInRange : Version → Values → Argument → Type 0
IsInRange version v First = v.first < 2 ^ 32
IsInRange version v Second = v.second < 2 ^ 32
IsInRange version v Third = v.third < 2 ^ 32
IsInRange version v File = v.first < 65536
IsInRange version v Target = v.first < most_tasks version
IsInRange version v Protection = v.prot < 8
IsInRange version v AccessBit = IsAccess v.access

-- what the arguments say of these values, and 0 for the others
abbrev pub only : List Argument → Values → Values
only [] v = no_values
only (First ∷ arguments) v = record (only arguments v) { first = v.first }
only (Second ∷ arguments) v = record (only arguments v) { second = v.second }
only (Third ∷ arguments) v = record (only arguments v) { third = v.third }
only (File ∷ arguments) v = record (only arguments v) { first = v.first }
only (Target ∷ arguments) v = record (only arguments v) { first = v.first }
only (Protection ∷ arguments) v = record (only arguments v) { prot = v.prot }
only (AccessBit ∷ arguments) v = record (only arguments v) { access = v.access }

-- the words of a call on this kind of object
pub record IsCall (version : Version) (is_space : Bool) (w : CallWords) : Type 0 where
  pub verb : CallKind
  pub mode : Mode
  pub values : Values
  pub known : is_on_kind version is_space verb ≡ true
  pub moded : takes_mode verb mode ≡ true
  pub ranged : AllByRecursion (IsInRange version values) (arguments_of verb)
  pub words : w ≡ call_words_of verb mode (only (arguments_of verb) values)

-- a call on a declared object
pub record IsLine (version : Version) (objects : List Declared) (l : Line) : Type 0 where
  pub declared : Declared
  pub call : CallWords
  pub place : slice_get objects l.object ≡ Some declared
  pub is : IsCall version declared.is_space call
  pub words : l ≡ line_of l.object call

-- each is named, and none as one in front of it
abbrev pub AreNamed : (before : List Declared) → List Declared → Type 0
AreNamed before [] = Unit {0}
AreNamed before (d ∷ ds) = (is_name d.name ≡ true) × (place_of d.name before ≡ None) × AreNamed (before ++ d ∷ []) ds

pub record IsSound (s : Listing) : Type 0 where
  pub few_objects : length s.objects ≤ most_objects s.version
  pub few_tasks : length s.tasks ≤ most_tasks s.version
  pub named : AreNamed [] s.objects
  pub calls : AllByRecursion (AllByRecursion (IsLine s.version s.objects)) s.tasks
