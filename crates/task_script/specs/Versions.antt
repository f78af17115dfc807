-- What the scripts of each version have.
use Rattle.std.specs.Prelude.{ℕ, List, [], Bool, true, false, codes}
use Rattle.task_script.specs.declared.version.Version.{Version}
use Rattle.task_script.specs.Types.{One, Two}

abbrev pub version_number : Version → ℕ
version_number One = 1
version_number Two = 2

abbrev pub most_objects : Version → ℕ
most_objects One = 16
most_objects Two = 32

abbrev pub most_tasks : Version → ℕ
most_tasks One = 64
most_tasks Two = 400

-- whether their calls may move pages
abbrev pub has_remap : Version → Bool
has_remap One = false
has_remap Two = true

abbrev pub is_second : Version → Bool
is_second One = false
is_second Two = true

-- the line that they begin with
abbrev pub version_text : Version → List ℕ
version_text One = []
version_text Two = codes "version 2\n"
