-- That the text of a script's histories tells them.
use Rattle.std.specs.Prelude.{◌≡◌, ℕ, ◌+◌, ◌^◌, ◌<◌, Bool, true, false, List, [], ◌∷◌, map}
use Rattle.word_bits.specs.Histories.{history, state_after}
use Rattle.word_bits.specs.RecWord.{value_of}
use Rattle.vma_map.specs.Spaces.{space}
use Rattle.fd_table.specs.Tables.{table}
use Rattle.task_script.specs.Scripts.{Declared, Listing, plan_of}
use Rattle.mm_report.specs.Results.{Told}
use Rattle.mm_report.specs.Text.{event_line, event_text, space_text, table_text}
use Rattle.mm_report.specs.Reports.{report_of}
use Rattle.mm_report.specs.Types.{CallWords, Reply}

-- the lines of an object's history
abbrev pub lines_told : Listing → ℕ → (is_space : Bool) → Told → List (List ℕ)
lines_told s object true t = map (event_text s object) (history space (plan_of s object) t.records t.log)
lines_told s object false t = map (event_text s object) (history table (plan_of s object) t.records t.log)

-- the text of the state that it is left in
abbrev pub state_told : Listing → ℕ → (is_space : Bool) → Told → List ℕ
state_told s object true t = space_text (state_after space (plan_of s object) t.log)
state_told s object false t = table_text (state_after table (plan_of s object) t.log)

-- of each object from this one on the same lines and the same state are told
abbrev pub TellTheSame : Listing → ℕ → List Declared → (ts us : List Told) → Type 0
TellTheSame s object [] ts us = Unit {0}
TellTheSame s object (d ∷ ds) [] [] = Unit {0}
TellTheSame s object (d ∷ ds) [] (u ∷ us) = ⊥
TellTheSame s object (d ∷ ds) (t ∷ ts) [] = ⊥
TellTheSame s object (d ∷ ds) (t ∷ ts) (u ∷ us) =
    (lines_told s object d.is_space t ≡ lines_told s object d.is_space u) × (state_told s object d.is_space t ≡ state_told s object d.is_space u) × TellTheSame s (object + 1) ds ts us

-- A call's line tells its task, its number and its reply, where the numbers have 32 bits and the value of the reply is in the range of a record.
abbrev pub LineTellsCall : Type 0
LineTellsCall =
    (task number task' number' : ℕ) (w w' : CallWords) (reply reply' : Reply) → task < 2 ^ 32 → number < 2 ^ 32 → task' < 2 ^ 32 → number' < 2 ^ 32 → value_of reply < 2 ^ 22 → value_of reply' < 2 ^ 22
    → event_line task number w reply ≡ event_line task' number' w' reply' → (task ≡ task') × (number ≡ number') × (reply ≡ reply')

-- The text determines the histories: what is told of a script in the same text is line by line the same.
abbrev pub TextDeterminesHistories : Type 0
TextDeterminesHistories = (s : Listing) (told other : List Told) → report_of false s told ≡ report_of false s other → TellTheSame s 0 s.objects told other
