-- What of a script is kept, and what of it contracts see.
use Rattle.std.specs.Prelude.{◌≡◌, ℕ, Bool, true, false, List, map, Option, Some, None}
use Rattle.std.specs.Global.{Vec}
use Rattle.std.specs.List.{list_all}
use Rattle.arrayvec.specs.ArrayString.{ArrayString}
use Rattle.task_script.specs.declared.script.Line.{Line}
use Rattle.task_script.specs.declared.version.Version.{Version}
use Rattle.task_script.specs.declared.script.Kind.{Kind}
use Rattle.task_script.specs.declared.script.Kind.TheVariants.{Space, Table}
use Rattle.task_script.specs.Scripts.{Declared, Listing}
use Rattle.task_script.specs.Tokens.{is_name}

abbrev pub is_space_kind : Kind → Bool
is_space_kind Space = true
is_space_kind Table = false

abbrev pub declared_of : ArrayString × Kind → Declared
declared_of entry = record { name = entry.0.bytes; is_space = is_space_kind entry.1 }

abbrev pub listing : Version → List (ArrayString × Kind) → List (Vec Line) → Listing
listing version objects tasks = record { version = version; objects = map declared_of objects; tasks = map (λ v. v.items) tasks }

-- each object has a name
abbrev pub are_named : List Declared → Bool
are_named objects = list_all (λ d. is_name d.name) objects

-- the name that a word is, if it is one
abbrev pub NameIs : List ℕ → Option ArrayString → Type 0
NameIs word None = is_name word ≡ false
NameIs word (Some name) = (is_name word ≡ true) × (name.bytes ≡ word)
