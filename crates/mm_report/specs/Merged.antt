-- The calls of several tasks in one order, by where each of them stands.
use Rattle.std.specs.Prelude.{ℕ, ◌+◌, ◌*◌, ◌≤◌, nat_lt, Bool, zero, suc, List, [], ◌∷◌, ◌++◌, map, flat_map, if◌then◌else◌}
use Rattle.mm_report.specs.Types.{CallWords, Rec}
use Rattle.word_bits.specs.Objects.{Obj}
use Rattle.word_bits.specs.Histories.{Plan, Records, Event, task_events, logs}

-- the calls of each task with their records
abbrev pub task_lists : ℕ → Plan → Records → List (List Event)
task_lists task [] rss = []
task_lists task (ws ∷ wss) [] = []
task_lists task (ws ∷ wss) (rs ∷ rss) = task_events task 0 ws rs ∷ task_lists (task + 1) wss rss

module _ {Call : Type 0} (o : Obj Call) where
  -- Where a call stands. Each place of the log has two positions: that of the calls which stand in front of its entry, and that of the entry's call.
  abbrev pub position : CallWords → Rec → ℕ
  position w r = r.k * 2 + (if logs o w r.reply then 1 else 0)

  abbrev pub stands_below : ℕ → Event → Bool
  stands_below bound v = nat_lt (position v.words v.told) bound

  -- the first calls of a task, as long as they stand below a position
  abbrev pub front : ℕ → List Event → List Event
  front bound [] = []
  front bound (v ∷ vs) = if stands_below bound v then v ∷ front bound vs else []

  -- its calls behind those
  abbrev pub behind : ℕ → List Event → List Event
  behind bound [] = []
  behind bound (v ∷ vs) = if stands_below bound v then behind bound vs else v ∷ vs

  -- what is told at so many positions from this one on: at each, task by task, the calls that stand there
  abbrev pub merged : (position count : ℕ) → List (List Event) → List Event
  merged position zero lefts = []
  merged position (suc count) lefts = flat_map (front (position + 1)) lefts ++ merged (position + 1) count (map (behind (position + 1)) lefts)

  -- the next call doesn't stand below
  abbrev pub NextFrom : ℕ → List Event → Type 0
  NextFrom bound [] = Unit {0}
  NextFrom bound (v ∷ vs) = bound ≤ position v.words v.told
