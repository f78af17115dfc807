-- What is written of histories, and where the cursors stand then, whatever the records are.
use Rattle.std.specs.Prelude.{◌≡◌, ℕ, ◌+◌, ◌*◌, Bool, List, length, map, flat_map, slice_get, Some, Option, Result, OnOk}
use Rattle.word_bits.specs.Objects.{Obj}
use Rattle.word_bits.specs.Snapshots.{Words}
use Rattle.word_bits.specs.Histories.{Records, Event}
use Rattle.word_bits.specs.Legal.{Tells}
use Rattle.byte_streams.specs.Causes.{Adds, Puts}
use Rattle.task_script.specs.Scripts.{Declared, Listing, plan_of}
use Rattle.mm_report.specs.declared.cursor.Cursor.{Cursor}
use Rattle.mm_report.specs.Cursors.{HasRecords, AreRead, IsAt, AreAt, first_record}
use Rattle.mm_report.specs.Merged.{front, behind, merged, task_lists}
use Rattle.mm_report.specs.Reports.{report_of}
use Rattle.mm_report.specs.Results.{Told, IsLegalOn, AreLegal}
use Rattle.mm_report.specs.Text.{event_text, task_event_text}
use Rattle.mm_report.specs.Types.{Rec, Line}

module _ {Call : Type 0} (o : Obj Call) where
  -- of the calls on the object, those up to a position
  module _ (object : ℕ) (recs : List ℕ) (bound : ℕ) where
    -- of these calls of a task, those below the position that are left at the cursor are written
    abbrev pub WritesCalls : {E : Type 0} → (task : ℕ) → List Line → Cursor → (old new : Option (List ℕ)) → (before now : List ℕ) → Result (Unit {0}) E → Type 0
    WritesCalls task lines c old new before now result =
        (first : ℕ) (rs : List Rec) (left : List Event) → HasRecords object lines recs first rs → IsAt o object task lines first rs c left
        → Adds old new before now (flat_map (task_event_text object lines) (front o bound left)) result

    -- at Ok those behind them are left at the cursor
    abbrev pub PassesCalls : {T E : Type 0} → (task : ℕ) → List Line → (old new : Cursor) → Result T E → Type 0
    PassesCalls task lines c d result =
        (first : ℕ) (rs : List Rec) (left : List Event) → HasRecords object lines recs first rs → IsAt o object task lines first rs c left
        → OnOk result (IsAt o object task lines first rs d (behind o bound left))

  -- the same of all calls of a task of the script
  module _ (s : Listing) (object : ℕ) (recs : List ℕ) (bound : ℕ) where
    abbrev pub WritesTask : {E : Type 0} → (task : ℕ) → Cursor → (old new : Option (List ℕ)) → (before now : List ℕ) → Result (Unit {0}) E → Type 0
    WritesTask task c old new before now result =
        (lines : List Line) (rs : List Rec) (left : List Event) → slice_get s.tasks task ≡ Some lines → HasRecords object lines recs (first_record s object task) rs
        → IsAt o object task lines (first_record s object task) rs c left
        → Adds old new before now (flat_map (event_text s object) (front o bound left)) result

    abbrev pub PassesTask : {T E : Type 0} → (task : ℕ) → (old new : Cursor) → Result T E → Type 0
    PassesTask task c d result =
        (lines : List Line) (rs : List Rec) (left : List Event) → slice_get s.tasks task ≡ Some lines → HasRecords object lines recs (first_record s object task) rs
        → IsAt o object task lines (first_record s object task) rs c left
        → OnOk result (IsAt o object task lines (first_record s object task) rs d (behind o bound left))

    -- the same of all tasks, one after the other
    abbrev pub WritesTasks : {E : Type 0} → List Cursor → (old new : Option (List ℕ)) → (before now : List ℕ) → Result (Unit {0}) E → Type 0
    WritesTasks cs old new before now result =
        (records : Records) (lefts : List (List Event)) → AreRead s object recs records → length lefts ≡ length s.tasks → AreAt o s object records cs lefts
        → Adds old new before now (flat_map (event_text s object) (flat_map (front o bound) lefts)) result

    abbrev pub PassesTasks : {T E : Type 0} → (old new : List Cursor) → Result T E → Type 0
    PassesTasks cs ds result =
        (records : Records) (lefts : List (List Event)) → AreRead s object recs records → length lefts ≡ length s.tasks → AreAt o s object records cs lefts
        → OnOk result (AreAt o s object records ds (map (behind o bound) lefts))

  -- all calls on the object are written, in the order of where they stand
  abbrev pub WritesHistory : {E : Type 0} → Listing → (object : ℕ) → Words → (old new : Option (List ℕ)) → (before now : List ℕ) → Result (Unit {0}) E → Type 0
  WritesHistory s object snapshot old new before now result =
      (records : Records) → AreRead s object snapshot.recs records
      → Adds old new before now (flat_map (event_text s object) (merged o 0 (length snapshot.log * 2 + 1) (task_lists 0 (plan_of s object) records))) result

-- what a text says of an object is written, whatever legal history its snapshot tells
abbrev pub WritesObject : {E : Type 0} → (Listing → ℕ → Declared → Told → List ℕ) → Listing → (object : ℕ) → Words → (old new : Option (List ℕ)) → (before now : List ℕ) → Result (Unit {0}) E → Type 0
WritesObject text s object snapshot old new before now result =
    (d : Declared) (t : Told) → slice_get s.objects object ≡ Some d → Tells snapshot t.records t.log → IsLegalOn d.is_space (plan_of s object) t snapshot.state
    → Adds old new before now (text s object d t) result

-- the report of all objects is written, whatever legal histories the results tell
abbrev pub WritesReport : {E : Type 0} → (summary : Bool) → Listing → List Words → (old new : Option (List ℕ)) → (before now : List ℕ) → Result (Unit {0}) E → Type 0
WritesReport summary s results old new before now result =
    (told : List Told) → AreLegal s results told → Adds old new before now (report_of summary s told) result

-- the same where nothing waits, before or after
abbrev pub PutsReport : {E : Type 0} → (summary : Bool) → Listing → List Words → (old new : Option (List ℕ)) → Result (Unit {0}) E → Type 0
PutsReport summary s results old new result =
    (told : List Told) → AreLegal s results told → Puts old new (report_of summary s told) result
