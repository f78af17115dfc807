-- What a script's report says: its objects' histories, or their summaries.
use Rattle.std.specs.Prelude.{ℕ, ◌+◌, Bool, true, false, List, [], ◌∷◌, ◌++◌}
use Rattle.task_script.specs.Scripts.{Declared, Listing, plan_of}
use Rattle.task_script.specs.Texts.{declaration_text}
use Rattle.mm_report.specs.Results.{Told}
use Rattle.mm_report.specs.Text.{told_text}
use Rattle.mm_report.specs.Summary.{counts_of, counts_text}

-- what is said of one object
abbrev pub object_report : (summary : Bool) → Listing → ℕ → Declared → Told → List ℕ
object_report true s object d t = counts_text d.name (counts_of d.is_space (plan_of s object) t)
object_report false s object d t = declaration_text d ++ told_text s object d.is_space t

-- what is said of the objects from this one on
abbrev pub report_from : (summary : Bool) → Listing → ℕ → List Declared → List Told → List ℕ
report_from summary s object [] ts = []
report_from summary s object (d ∷ ds) [] = []
report_from summary s object (d ∷ ds) (t ∷ ts) = object_report summary s object d t ++ report_from summary s (object + 1) ds ts

-- what is said of all objects, in the order of declaration
abbrev pub report_of : (summary : Bool) → Listing → List Told → List ℕ
report_of summary s told = report_from summary s 0 s.objects told
