-- How far the calls of each task on an object are told.
use Rattle.std.specs.Prelude.{◌≡◌, ℕ, ◌+◌, ◌<◌, ◌≤◌, List, [], ◌∷◌, ◌++◌, length, take, drop, map, filter, flat_map, sum_by, count_by, slice_get, get_or, Option, Some, None}
use Rattle.std.specs.List.{AllByRecursion}
use Rattle.word_bits.specs.RecWord.{IsRec, rec_word}
use Rattle.word_bits.specs.Objects.{Obj}
use Rattle.word_bits.specs.Histories.{Records, Event, task_events}
use Rattle.task_script.specs.Scripts.{Listing, call_words, is_on}
use Rattle.mm_report.specs.declared.cursor.Cursor.{Cursor}
use Rattle.mm_report.specs.Merged.{NextFrom}
use Rattle.mm_report.specs.Types.{Rec, Line}

-- before any line, and before any call
abbrev pub at_start : Cursor
at_start = record { line = 0; rec = 0; position = Some 0 }

-- what stands for a cursor that isn't there
abbrev pub no_cursor : Cursor
no_cursor = record { line = 0; rec = 0; position = None }

-- where the next call stands at the earliest, which is past all positions where none is left
abbrev pub earliest : Option ℕ → ℕ
earliest None = 18446744073709551615
earliest (Some position) = position

-- no task but one has calls left below a position
abbrev pub IsOneBelow : ℕ → List Cursor → Type 0
IsOneBelow bound cursors =
    (one : ℕ) × ((task : ℕ) → (task ≡ one → ⊥) → task < length cursors → bound ≤ earliest (get_or cursors task no_cursor).position)

-- how many calls on the object stand before a line
abbrev pub calls_before : ℕ → List Line → ℕ → ℕ
calls_before object lines line = count_by (is_on object) (take line lines)

-- a task's calls on the object, with their records
abbrev pub events_of : (object task : ℕ) → List Line → List Rec → List Event
events_of object task lines rs = task_events task 0 (map call_words (filter (is_on object) lines)) rs

-- the place of a task's first record
abbrev pub first_record : Listing → (object task : ℕ) → ℕ
first_record s object task = sum_by (count_by (is_on object)) (take task s.tasks)

-- the cursor of each task stands before the task's first line, and at its first record
abbrev pub StandFirst : Listing → (object : ℕ) → List Cursor → Type 0
StandFirst s object cursors = (task : ℕ) → task < length s.tasks → get_or cursors task no_cursor ≡ record { line = 0; rec = first_record s object task; position = Some 0 }

-- from this place on stand the words of the records of a task's calls
pub record HasRecords (object : ℕ) (lines : List Line) (recs : List ℕ) (first : ℕ) (rs : List Rec) : Type 0 where
  pub fit : AllByRecursion IsRec rs
  pub each : length rs ≡ count_by (is_on object) lines
  pub others : List ℕ
  pub more : List ℕ
  pub starts : length others ≡ first
  pub words : recs ≡ others ++ (map rec_word rs ++ more)

-- each call on the object has a record
abbrev pub HaveRecords : ℕ → List (List Line) → Records → Type 0
HaveRecords object [] [] = Unit {0}
HaveRecords object [] (rs ∷ rss) = ⊥
HaveRecords object (lines ∷ tasks) [] = ⊥
HaveRecords object (lines ∷ tasks) (rs ∷ rss) = (length rs ≡ count_by (is_on object) lines) × HaveRecords object tasks rss

-- the words are those of these records, one for each call on the object
pub record AreRead (s : Listing) (object : ℕ) (recs : List ℕ) (records : Records) : Type 0 where
  pub words : recs ≡ flat_map (map rec_word) records
  pub fit : AllByRecursion (AllByRecursion IsRec) records
  pub each : HaveRecords object s.tasks records

module _ {Call : Type 0} (o : Obj Call) where
  -- a task's cursor, where these calls of the task are left
  pub record IsAt (object task : ℕ) (lines : List Line) (first : ℕ) (rs : List Rec) (c : Cursor) (left : List Event) : Type 0 where
    pub rec : c.rec ≡ first + calls_before object lines c.line
    pub is : left ≡ drop (calls_before object lines c.line) (events_of object task lines rs)
    pub next : NextFrom o (earliest c.position) left

  -- the cursors of all tasks, where these calls of each are left
  abbrev pub AreAt : Listing → ℕ → Records → List Cursor → List (List Event) → Type 0
  AreAt s object records cursors lefts =
      (task : ℕ) (lines : List Line) (rs : List Rec) (left : List Event) → slice_get s.tasks task ≡ Some lines → slice_get records task ≡ Some rs → slice_get lefts task ≡ Some left
      → IsAt object task lines (first_record s object task) rs (get_or cursors task no_cursor) left
