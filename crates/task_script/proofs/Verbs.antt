-- What a verb's words and its arguments say, and what a line's words lead to.
use Rattle.std.proofs.Common.{◌≡◌, ℕ, ◌≤◌, List, [], ◌∷◌, length, drop, refl, sym, ◌∙◌, Ok, Err, Some, None, Bool, true, false, if◌then◌else◌}
use Rattle.std.proofs.lemmas.List.{at_drop_all}
use Rattle.task_script.specs.declared.version.Version.{Version}
use Rattle.task_script.specs.Verbs.{no_values, with_arguments}
use Rattle.task_script.specs.Cuts.{is_empty}
use Rattle.task_script.specs.Tokens.{is_name}
use Rattle.task_script.specs.Scripts.{Listing}
use Rattle.task_script.specs.Grammar.{call_line, object_line, place_of}
use Rattle.task_script.specs.Types.{Argument, Values, Name, Unknown, Mode}

-- where no argument is left all were read
no_arguments : (version : Version) (ws : List (List ℕ)) (v : Values) → with_arguments version [] ws v ≡ Ok v
no_arguments version [] v = refl
no_arguments version (w ∷ ws) v = refl

pub no_arguments_left : (version : Version) (arguments : List Argument) (i : ℕ) (left all : List (List ℕ)) (v : Values) → length arguments ≤ i → with_arguments version (drop i arguments) left v ≡ with_arguments version arguments all no_values → Ok v ≡ with_arguments version arguments all no_values
no_arguments_left version arguments i left all v past same = sym (at_drop_all (λ (rest : List Argument). with_arguments version rest left v) arguments i past ∙ no_arguments version left v) ∙ same

-- a call on no declared object
pub line_unknown : (mode : Mode) (s : Listing) (name : List ℕ) (ws : List (List ℕ)) → is_empty s.tasks ≡ false → place_of name s.objects ≡ None → call_line mode s (name ∷ ws) ≡ Err (if is_name name then Unknown else Name)
line_unknown mode s name ws some place = go (is_name name) refl
  where
    go : (t : Bool) → is_name name ≡ t → call_line mode s (name ∷ ws) ≡ Err (if is_name name then Unknown else Name)
    go true named = rw (some, named, place) refl
    go false named = rw (some, named) refl

-- a call on a declared object, behind its name
pub line_called : (mode : Mode) (s : Listing) (name : List ℕ) (object : ℕ) (ws : List (List ℕ)) → is_empty s.tasks ≡ false → is_name name ≡ true → place_of name s.objects ≡ Some object → call_line mode s (name ∷ ws) ≡ object_line mode s object ws
line_called mode s name object ws some named place = rw (some, named, place) refl
