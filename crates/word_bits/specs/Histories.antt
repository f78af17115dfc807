-- The calls on one object: what a log makes of its state, and in what order its calls stand.
use Rattle.std.specs.Prelude.{ℕ, ◌+◌, ◌==◌, ◌&&◌, not, Bool, false, List, [], ◌∷◌, ◌++◌, fold, filter, slice_get, Option, Some, None}
use Rattle.std.specs.Option.{option_and_then, option_map_or}
use Rattle.word_bits.specs.declared.call.CallWords.{CallWords}
use Rattle.word_bits.specs.declared.entry.Entry.{Entry}
use Rattle.word_bits.specs.declared.rec.Rec.{Rec}
use Rattle.word_bits.specs.declared.reply.Reply.{Reply}
use Rattle.word_bits.specs.declared.reply.Reply.TheVariants.{Busy, Intr, Sent}
use Rattle.word_bits.specs.EntryWord.{entry_eq}
use Rattle.word_bits.specs.Objects.{Obj}

-- the calls on the object, task by task
abbrev pub Plan : Type 0
Plan = List (List CallWords)

-- the records of the calls, likewise
abbrev pub Records : Type 0
Records = List (List Rec)

-- what stands at a place of a list of lists
abbrev pub at_entry : {X : Type 0} → List (List X) → Entry → Option X
at_entry xss e = option_and_then (λ xs. slice_get xs e.call) (slice_get xss e.task)

-- a call with its record
pub record Event : Type 0 where
  pub entry : Entry
  pub words : CallWords
  pub told : Rec

-- a task's calls with their records, from the call of this number on
abbrev pub task_events : ℕ → ℕ → List CallWords → List Rec → List Event
task_events task call [] rs = []
task_events task call (w ∷ ws) [] = []
task_events task call (w ∷ ws) (r ∷ rs) = record { entry = record { task = task; call = call }; words = w; told = r } ∷ task_events task (call + 1) ws rs

-- all calls with their records, by task, then by number
abbrev pub events_from : ℕ → Plan → Records → List Event
events_from task [] rss = []
events_from task (ws ∷ wss) [] = []
events_from task (ws ∷ wss) (rs ∷ rss) = task_events task 0 ws rs ++ events_from (task + 1) wss rss

module _ {Call : Type 0} (o : Obj Call) where
  abbrev pub next_state : o.State → Option Call → o.State
  next_state s None = s
  next_state s (Some c) = (o.meaning s c).0

  -- the state after the calls that the entries name, one after the other
  abbrev pub state_after : Plan → List Entry → o.State
  state_after plan log = fold (λ (s : o.State) (e : Entry). next_state s (option_and_then o.call_of (at_entry plan e))) o.empty log

  -- a changing call of the object
  abbrev pub changes : CallWords → Bool
  changes w = option_map_or (λ c. not (o.reads c)) (o.call_of w) false

  -- a call with this reply is logged: a changing call that held the lock
  abbrev pub logs : CallWords → Reply → Bool
  logs w (Busy word) = false
  logs w Intr = false
  logs w Sent = false
  logs w reply = changes w

  abbrev pub event_logs : Event → Bool
  event_logs v = logs v.words v.told.reply

  -- the calls that aren't logged and stand behind the k-th logged call
  abbrev pub unlogged_at : List Event → ℕ → List Event
  unlogged_at events k = filter (λ v. not (event_logs v) && (v.told.k == k)) events

  -- the order of the calls, from the k-th logged call on
  abbrev pub history_from : List Event → ℕ → List Entry → List Event
  history_from events k [] = unlogged_at events k
  history_from events k (e ∷ es) = unlogged_at events k ++ filter (λ v. entry_eq v.entry e) events ++ history_from events (k + 1) es

  -- the logged calls in the log's order; each other call behind as many of them as its record says, those at one place by task, then by number
  abbrev pub history : Plan → Records → List Entry → List Event
  history plan records log = history_from (events_from 0 plan records) 0 log
