-- How a text is cut into lines, and a line into words.
use Rattle.std.specs.Prelude.{ℕ, ◌==◌, ◌||◌, ◌&&◌, nat_le, not, Bool, true, false, List, [], ◌∷◌, filter, if◌then◌else◌}
use Rattle.std.specs.List.{slice_split, before_first}

abbrev pub is_empty : {X : Type 0} → List X → Bool
is_empty [] = true
is_empty (x ∷ xs) = false

-- a space or a tab
abbrev pub is_blank : ℕ → Bool
is_blank b = (b == 32) || (b == 9)

-- a blank, or one of ! to ~
abbrev pub is_plain : ℕ → Bool
is_plain b = is_blank b || (nat_le 33 b && nat_le b 126)

-- a byte of a line in front of a comment
abbrev pub is_clean : ℕ → Bool
is_clean b = is_plain b && not (b == 35)

-- such a byte, or a line feed
abbrev pub is_clean_or_feed : ℕ → Bool
is_clean_or_feed b = is_clean b || (b == 10)

-- what stands before, between and behind the line feeds
abbrev pub lines : List ℕ → List (List ℕ)
lines text = slice_split (λ b. b == 10) text

-- without a carriage return at the end
abbrev pub without_return : List ℕ → List ℕ
without_return [] = []
without_return (b ∷ []) = if b == 13 then [] else b ∷ []
without_return (b ∷ c ∷ bs) = b ∷ without_return (c ∷ bs)

-- what stands in front of a comment, which begins at #
abbrev pub uncommented : List ℕ → List ℕ
uncommented line = before_first (λ b. b == 35) line

-- the words stand between blanks
abbrev pub words : List ℕ → List (List ℕ)
words line = filter (λ w. not (is_empty w)) (slice_split is_blank line)
