-- What may stand around the words of a text without a change of what is read.
use Rattle.std.specs.Prelude.{◌≡◌, ℕ, ◌-◌, ◌<◌, ◌≤◌, ◌==◌, ◌&&◌, nat_le, not, Bool, true, List, [], ◌∷◌, ◌++◌, filter, length, take, ◌⊎◌, Result, Ok, Err}
use Rattle.std.specs.List.{list_all}
use Rattle.task_script.specs.Cuts.{is_blank, is_empty, lines}
use Rattle.task_script.specs.Scripts.{Listing}
use Rattle.task_script.specs.Grammar.{Refusal, script_of}
use Rattle.task_script.specs.Types.{Reason}

-- one of ! to ~, but not #
abbrev pub is_visible : ℕ → Bool
is_visible b = (nat_le 33 b && nat_le b 126) && not (b == 35)

abbrev pub IsWord : List ℕ → Type 0
IsWord w = (0 < length w) × (list_all is_visible w ≡ true)

-- nothing, or a blank is first
abbrev pub IsCutOff : List ℕ → Type 0
IsCutOff [] = Unit {0}
IsCutOff (b ∷ bs) = is_blank b ≡ true

-- the words stand there in this order, with at least one blank between two of them
abbrev pub AreSpread : (words : List (List ℕ)) → List ℕ → Type 0
AreSpread [] line = list_all is_blank line ≡ true
AreSpread (w ∷ ws) line = (blanks : List ℕ) × (rest : List ℕ) × (line ≡ blanks ++ w ++ rest) × (list_all is_blank blanks ≡ true) × IsWord w × IsCutOff rest × AreSpread ws rest

-- nothing, or # and any bytes
abbrev pub IsComment : List ℕ → Type 0
IsComment [] = Unit {0}
IsComment (b ∷ bs) = b ≡ 35

-- a line of these words, then perhaps a comment, then perhaps a carriage return
abbrev pub IsPadded : (words : List (List ℕ)) → (line : List ℕ) → Type 0
IsPadded ws line = (front : List ℕ) × (comment : List ℕ) × (end : List ℕ) × (line ≡ front ++ (comment ++ end)) × AreSpread ws front × IsComment comment × ((end ≡ []) ⊎ (end ≡ 13 ∷ []))

-- for each list of words one such line
abbrev pub ArePadded : List (List (List ℕ)) → (lines : List (List ℕ)) → Type 0
ArePadded [] [] = Unit {0}
ArePadded [] (l ∷ ls) = ⊥
ArePadded (ws ∷ wss) [] = ⊥
ArePadded (ws ∷ wss) (l ∷ ls) = IsPadded ws l × ArePadded wss ls

-- those that have words
abbrev pub worded : List (List (List ℕ)) → List (List (List ℕ))
worded wss = filter (λ ws. not (is_empty ws)) wss

-- where a line is refused: how many lines with words stand in front of it, and how many with it, so that it is one of them
pub record RefusedAt : Type 0 where
  pub before : ℕ
  pub through : ℕ
  pub reason : Reason

-- the script, or the first refusal, by its place among the lines with words
abbrev pub outcome : List (List (List ℕ)) → Result Listing Refusal → Result Listing RefusedAt
outcome wss (Ok s) = Ok s
outcome wss (Err r) = Err (record { before = length (worded (take (r.line - 1) wss)); through = length (worded (take r.line wss)); reason = r.reason })

-- Two texts whose lines have the same words, but for lines without words, are read alike.
abbrev pub PaddingIsPassedOver : Type 0
PaddingIsPassedOver =
    (text other : List ℕ) (wss vss : List (List (List ℕ))) → length text ≤ 1048576 → length other ≤ 1048576 → ArePadded wss (lines text) → ArePadded vss (lines other) → worded wss ≡ worded vss
    → outcome wss (script_of text) ≡ outcome vss (script_of other)
