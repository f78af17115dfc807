-- What the words of a script's calls mean to the objects.
use Rattle.std.specs.Prelude.{◌≡◌, ℕ, ◌<◌, Bool, true, false, List, [], ◌∷◌, ◌++◌, flat_map, Some, Ok, codes, decimal}
use Rattle.mm_report.specs.Types.{CallWords, Mode, Plain, SpaceCall, Map, MapAny, MapNew, Unmap, Protect, Populate, Remap, TableCall, Open, Close, Dup, Dup2, Get, Version, Two}
use Rattle.word_bits.specs.Calls.{mode_of, signal_of}
use Rattle.word_bits.specs.Objects.{Obj}
use Rattle.vma_map.specs.Spaces.{space}
use Rattle.vma_map.specs.declared.call.SpaceCall.TheVariants.{Fault}
use Rattle.fd_table.specs.Tables.{table}
use Rattle.task_script.specs.Texts.{prot_text, access_text, verb_and_arguments}
use Rattle.task_script.specs.Verbs.{call_on}
use Rattle.task_script.specs.Versions.{most_tasks}

-- in a script of this version, and in this mode, a name with these arguments is kept as these words, and they are told by the same name and arguments
pub record IsKeptAs (version : Version) (is_space : Bool) (mode : Mode) (name : List ℕ) (arguments : List (List ℕ)) (kept : CallWords) : Type 0 where
  pub read : call_on version is_space mode name arguments ≡ Ok kept
  pub moded : mode_of kept ≡ mode
  pub told : verb_and_arguments kept ≡ name ++ flat_map (λ word. 32 ∷ word) arguments

-- a name with these arguments means this call of the object
pub record Means {Call : Type 0} (o : Obj Call) (version : Version) (is_space : Bool) (mode : Mode) (name : List ℕ) (arguments : List (List ℕ)) (call : Call) : Type 0 where
  pub kept : CallWords
  pub is : IsKeptAs version is_space mode name arguments kept
  pub meant : o.call_of kept ≡ Some call

-- in each version and mode a call on a space is meant by its own name, a remap in version 2
abbrev pub IsNamedOfSpace : Version → Mode → SpaceCall → Type 0
IsNamedOfSpace version mode (Map start len prot) = Means space version true mode (codes "map") (decimal start ∷ decimal len ∷ prot_text prot ∷ []) (Map start len prot)
IsNamedOfSpace version mode (MapAny len prot) = Means space version true mode (codes "map") (codes "any" ∷ decimal len ∷ prot_text prot ∷ []) (MapAny len prot)
IsNamedOfSpace version mode (MapNew start len prot) = Means space version true mode (codes "mapnew") (decimal start ∷ decimal len ∷ prot_text prot ∷ []) (MapNew start len prot)
IsNamedOfSpace version mode (Unmap start len) = Means space version true mode (codes "unmap") (decimal start ∷ decimal len ∷ []) (Unmap start len)
IsNamedOfSpace version mode (Protect start len prot) = Means space version true mode (codes "protect") (decimal start ∷ decimal len ∷ prot_text prot ∷ []) (Protect start len prot)
IsNamedOfSpace version mode (Populate start len prot) = Means space version true mode (codes "populate") (decimal start ∷ decimal len ∷ prot_text prot ∷ []) (Populate start len prot)
IsNamedOfSpace version mode (Fault page access) = Means space version true mode (codes "fault") (decimal page ∷ access_text access ∷ []) (Fault page access)
IsNamedOfSpace version mode (Remap start len to) = version ≡ Two → Means space version true mode (codes "remap") (decimal start ∷ decimal len ∷ decimal to ∷ []) (Remap start len to)

-- the same of a call on a table
abbrev pub IsNamedOfTable : Version → Mode → TableCall → Type 0
IsNamedOfTable version mode (Open file) = Means table version false mode (codes "open") (decimal file ∷ []) (Open file)
IsNamedOfTable version mode (Close fd) = Means table version false mode (codes "close") (decimal fd ∷ []) (Close fd)
IsNamedOfTable version mode (Dup fd) = Means table version false mode (codes "dup") (decimal fd ∷ []) (Dup fd)
IsNamedOfTable version mode (Dup2 fd to) = Means table version false mode (codes "dup2") (decimal fd ∷ decimal to ∷ []) (Dup2 fd to)
IsNamedOfTable version mode (Get fd) = Means table version false mode (codes "get") (decimal fd ∷ []) (Get fd)

abbrev pub SpaceCallsAreNamed : Type 0
SpaceCallsAreNamed = (version : Version) (mode : Mode) (call : SpaceCall) → space.IsCall call → IsNamedOfSpace version mode call

abbrev pub TableCallsAreNamed : Type 0
TableCallsAreNamed = (version : Version) (mode : Mode) (call : TableCall) → table.IsCall call → IsNamedOfTable version mode call

-- on either kind of object a signal means the task that it names, which a script of the version may have
abbrev pub SignalsAreNamed : Type 0
SignalsAreNamed = (version : Version) (is_space : Bool) (task : ℕ) → task < most_tasks version → (kept : CallWords) × IsKeptAs version is_space Plain (codes "signal") (decimal task ∷ []) kept
    × (signal_of kept ≡ Some task)
