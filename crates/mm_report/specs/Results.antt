-- The results of a script: what each of its objects leaves.
use Rattle.std.specs.Prelude.{◌≡◌, ℕ, ◌+◌, ◌<◌, Bool, true, false, List, [], ◌∷◌, length, sum_by, count_by, get_or}
use Rattle.mm_report.specs.Types.{Entry, Line}
use Rattle.word_bits.specs.LockWords.{counted, owned}
use Rattle.word_bits.specs.Snapshots.{Words, no_words}
use Rattle.word_bits.specs.Histories.{Plan, Records}
use Rattle.word_bits.specs.Legal.{IsLegal, Tells}
use Rattle.vma_map.specs.Spaces.{space}
use Rattle.fd_table.specs.Tables.{table}
use Rattle.task_script.specs.Scripts.{Declared, Listing, plan_of, is_on}

-- how many words store the state of an object
abbrev pub words_of_kind : Bool → ℕ
words_of_kind true = 257
words_of_kind false = 64

-- how many calls of the script are on the object
abbrev pub calls_on : Listing → ℕ → ℕ
calls_on s object = sum_by (count_by (is_on object)) s.tasks

-- the calls of these lines are counted, each on its object
abbrev pub AddsCalls : List Line → (old new : List ℕ) → Type 0
AddsCalls lines old new = (object : ℕ) → object < 32 → get_or new object 0 ≡ get_or old object 0 + count_by (is_on object) lines

-- an object's empty snapshot, with room for a record and an entry of each call and for the state
abbrev pub empty_snapshot : Listing → (object : ℕ) → (is_space : Bool) → Words
empty_snapshot s object is_space = no_words (calls_on s object) (calls_on s object) (words_of_kind is_space)

-- the same for each of these objects, from the one with this number on
abbrev pub empty_from : Listing → ℕ → List Declared → List Words
empty_from s object [] = []
empty_from s object (d ∷ ds) = empty_snapshot s object d.is_space ∷ empty_from s (object + 1) ds

-- the same for each object of the script
abbrev pub empty_results : Listing → List Words
empty_results s = empty_from s 0 s.objects

-- what a run told of one object
pub record Told : Type 0 where
  pub records : Records
  pub log : List Entry

-- A space stands under a count, a table under an owner word.
abbrev pub IsLegalOn : (is_space : Bool) → Plan → Told → List ℕ → Type 0
IsLegalOn true plan t state = IsLegal space counted plan t.records t.log state
IsLegalOn false plan t state = IsLegal table owned plan t.records t.log state

-- the words of each object tell a legal history of the script's calls on it
abbrev pub AreLegalFrom : Listing → ℕ → List Declared → List Words → List Told → Type 0
AreLegalFrom s object [] [] [] = Unit {0}
AreLegalFrom s object [] [] (t ∷ ts) = ⊥
AreLegalFrom s object [] (w ∷ ws) ts = ⊥
AreLegalFrom s object (d ∷ ds) [] ts = ⊥
AreLegalFrom s object (d ∷ ds) (w ∷ ws) [] = ⊥
AreLegalFrom s object (d ∷ ds) (w ∷ ws) (t ∷ ts) =
    Tells w t.records t.log × IsLegalOn d.is_space (plan_of s object) t w.state × AreLegalFrom s (object + 1) ds ws ts

-- the same of all objects
abbrev pub AreLegal : Listing → List Words → List Told → Type 0
AreLegal s words told = AreLegalFrom s 0 s.objects words told

-- one snapshot for each object, which has a record of each call of the script on it
abbrev pub AreCompleteFrom : Listing → ℕ → List Declared → List Words → Type 0
AreCompleteFrom s object [] [] = Unit {0}
AreCompleteFrom s object [] (w ∷ ws) = ⊥
AreCompleteFrom s object (d ∷ ds) [] = ⊥
AreCompleteFrom s object (d ∷ ds) (w ∷ ws) = (length w.recs ≡ calls_on s object) × AreCompleteFrom s (object + 1) ds ws

-- the same of all objects
abbrev pub AreComplete : Listing → List Words → Type 0
AreComplete s words = AreCompleteFrom s 0 s.objects words
