-- What a script says.
use Rattle.std.specs.Prelude.{ℕ, ◌==◌, Bool, List, [], get_or, length, map, filter, sum_by}
use Rattle.task_script.specs.Types.{CallWords, One}
use Rattle.word_bits.specs.Histories.{Plan}
use Rattle.task_script.specs.declared.script.Line.{Line}
use Rattle.task_script.specs.declared.version.Version.{Version}

-- an object that it declares
pub record Declared : Type 0 where
  pub name : List ℕ
  pub is_space : Bool

-- its version, the objects in order, and for each task its calls
pub record Listing : Type 0 where
  pub version : Version
  pub objects : List Declared
  pub tasks : List (List Line)

abbrev pub nothing : Listing
nothing = record { version = One; objects = []; tasks = [] }

abbrev pub names_of : Listing → List (List ℕ)
names_of s = map (λ d. d.name) s.objects

-- which objects are spaces
abbrev pub kinds_of : Listing → List Bool
kinds_of s = map (λ d. d.is_space) s.objects

abbrev pub call_words : Line → CallWords
call_words l = record { a = get_or l.words 0 0; b = get_or l.words 1 0 }

abbrev pub is_on : ℕ → Line → Bool
is_on object l = l.object == object

-- the calls on one object, task by task
abbrev pub plan_of : Listing → ℕ → Plan
plan_of s object = map (λ ls. map call_words (filter (is_on object) ls)) s.tasks

abbrev pub count_of_calls : Listing → ℕ
count_of_calls s = sum_by length s.tasks
