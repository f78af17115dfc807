-- In what order a history has its calls.
use Rattle.std.specs.Prelude.{◌≡◌, ℕ, ◌==◌, ◌<◌, Bool, List, [], ◌∷◌, ◌++◌, filter, slice_index_or, Some}
use Rattle.word_bits.specs.LockWords.{Unavailable}
use Rattle.word_bits.specs.Objects.{Obj}
use Rattle.word_bits.specs.Histories.{Plan, Records, Event, at_entry, task_events, history}
use Rattle.word_bits.specs.Legal.{IsLegal}
use Rattle.mm_report.specs.Merged.{position}
use Rattle.mm_report.specs.Types.{Entry}

-- the call is one of this task
abbrev pub is_of : ℕ → Event → Bool
is_of task v = v.entry.task == task

-- the calls of one task in their order, each with its record; none where there is no such task
abbrev pub calls_of : ℕ → Plan → Records → List Event
calls_of task plan records = task_events task 0 (slice_index_or plan task []) (slice_index_or records task [])

-- A legal history has each call of a task once, in the task's order.
abbrev pub KeepsOrder : {Call : Type 0} → Obj Call → Unavailable → Type 0
KeepsOrder o unavailable =
    (plan : Plan) (records : Records) (log : List Entry) (state : List ℕ) (task : ℕ) → IsLegal o unavailable plan records log state
    → filter (is_of task) (history o plan records log) ≡ calls_of task plan records

-- a call of the plan, with its record
pub record IsEventOf (plan : Plan) (records : Records) (v : Event) : Type 0 where
  pub planned : at_entry plan v.entry ≡ Some v.words
  pub recorded : at_entry records v.entry ≡ Some v.told

-- among these events the first stands before the second
pub record Before (events : List Event) (first second : Event) : Type 0 where
  pub earlier : List Event
  pub between : List Event
  pub later : List Event
  pub is : events ≡ earlier ++ first ∷ between ++ second ∷ later

-- A legal history has its calls in the order of their positions: of two calls, the one with the smaller position stands before the other.
abbrev pub KeepsPositions : {Call : Type 0} → Obj Call → Unavailable → Type 0
KeepsPositions o unavailable =
    (plan : Plan) (records : Records) (log : List Entry) (state : List ℕ) (first second : Event) → IsLegal o unavailable plan records log state → IsEventOf plan records first
    → IsEventOf plan records second
    → position o first.words first.told < position o second.words second.told → Before (history o plan records log) first second
