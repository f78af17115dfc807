-- What is left of a text that is being cut.
use Rattle.std.specs.Prelude.{◌≡◌, ℕ, Bool, false, true, List, [], ◌∷◌, Option, Some, None}
use Rattle.std.specs.Borrow.{Bor}
use Rattle.std.specs.List.{list_all, slice_split}
use Rattle.std.specs.Str.{bytes_eq}
use Rattle.task_script.specs.Cuts.{is_plain}

-- the parts, cut where the test passes, of what is left; none where nothing is left
abbrev pub parts_of : (ℕ → Bool) → Option (Bor (List ℕ)) → List (List ℕ)
parts_of cuts None = []
parts_of cuts (Some rest) = slice_split cuts rest.now

-- what is left, if anything is, has blanks and visible characters alone
abbrev pub IsPlainLeft : Option (Bor (List ℕ)) → Type 0
IsPlainLeft None = Unit {0}
IsPlainLeft (Some rest) = list_all is_plain rest.now ≡ true

-- no words are left, or the first isn't this one
abbrev pub IsBegunOtherwise : List ℕ → List (List ℕ) → Type 0
IsBegunOtherwise word [] = Unit {0}
IsBegunOtherwise word (w ∷ ws) = bytes_eq w word ≡ false

-- a word that was taken, if there was one, and those behind it
abbrev pub all_words : Option (Bor (List ℕ)) → List (List ℕ) → List (List ℕ)
all_words None ws = []
all_words (Some w) ws = w.now ∷ ws
