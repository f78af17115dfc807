-- When records with a log and state words are those of one thread's history.
use Rattle.std.specs.Prelude.{◌≡◌, ℕ, ◌+◌, ◌≤◌, ◌==◌, ◌&&◌, Bool, true, false, List, [], ◌∷◌, take, length, map, flat_map, sum_by, count_by, slice_get, Some, IsSome, ◌⊎◌, if◌then◌else◌}
use Rattle.std.specs.List.{AllByRecursion}
use Rattle.std.specs.Option.{option_map_or}
use Rattle.word_bits.specs.declared.call.CallWords.{CallWords}
use Rattle.word_bits.specs.declared.call.Mode.TheVariants.{Int, Try}
use Rattle.word_bits.specs.declared.entry.Entry.{Entry}
use Rattle.word_bits.specs.declared.rec.Rec.{Rec}
use Rattle.word_bits.specs.declared.reply.Reply.{Reply}
use Rattle.word_bits.specs.declared.reply.Reply.TheVariants.{Busy, Intr, Sent}
use Rattle.word_bits.specs.Calls.{mode_of, signal_of}
use Rattle.word_bits.specs.EntryWord.{IsEntry, entry_word, entry_eq}
use Rattle.word_bits.specs.RecWord.{IsRec, rec_word}
use Rattle.word_bits.specs.LockWords.{Unavailable}
use Rattle.word_bits.specs.Objects.{Obj}
use Rattle.word_bits.specs.Snapshots.{Words}
use Rattle.word_bits.specs.Histories.{Plan, Records, events_from, state_after, logs, event_logs}

abbrev pub is_intr : Reply → Bool
is_intr Intr = true
is_intr reply = false

abbrev pub signals_to : ℕ → CallWords → Bool
signals_to task w = option_map_or (λ target. target == task) (signal_of w) false

-- what a task has seen after a record: as many logged calls as stand before it, and its own if it is logged
abbrev pub seen_after : Bool → Rec → ℕ
seen_after logged r = if logged then r.k + 1 else r.k

module _ {Call : Type 0} (o : Obj Call) (unavailable : Unavailable) where
  -- the reply is the meaning of the call on the state after the first k logged calls
  abbrev pub IsReplyAt : Plan → List Entry → Call → Rec → Type 0
  IsReplyAt plan log c r = r.reply ≡ (o.meaning (state_after o plan (take r.k log)) c).1

  -- a changing call that held the lock: it stands in the log at its place
  pub record IsLogged (plan : Plan) (log : List Entry) (e : Entry) (w : CallWords) (r : Rec) : Type 0 where
    pub call : Call
    pub is : o.call_of w ≡ Some call
    pub changes : o.reads call ≡ false
    pub place : slice_get log r.k ≡ Some e
    pub reply : IsReplyAt plan log call r

  -- a reading call that replies neither busy nor interrupted
  pub record IsRead (plan : Plan) (log : List Entry) (w : CallWords) (r : Rec) : Type 0 where
    pub call : Call
    pub is : o.call_of w ≡ Some call
    pub reads : o.reads call ≡ true
    pub place : r.k ≤ length log
    pub reply : IsReplyAt plan log call r

  -- the reply of a call that never held the lock
  abbrev pub IsUnheldReply : CallWords → Reply → Type 0
  IsUnheldReply w (Busy word) = (mode_of w ≡ Try) × ((c : Call) × (o.call_of w ≡ Some c) × unavailable (o.reads c) word)
  IsUnheldReply w Intr = (mode_of w ≡ Int) × IsSome (o.call_of w)
  IsUnheldReply w Sent = IsSome (signal_of w)
  IsUnheldReply w reply = ⊥

  -- it stands at what its task had seen
  pub record IsUnheld (log : List Entry) (seen : ℕ) (w : CallWords) (r : Rec) : Type 0 where
    pub reply : IsUnheldReply w r.reply
    pub place : r.k ≡ seen
    pub within : r.k ≤ length log

  abbrev pub IsRecord : Plan → List Entry → ℕ → Entry → CallWords → Rec → Type 0
  IsRecord plan log seen e w r = IsLogged plan log e w r ⊎ IsRead plan log w r ⊎ IsUnheld log seen w r

  -- each call of the task from this number on has one record, and none stands before what the task had seen
  abbrev pub AreTaskRecords : Plan → List Entry → (task call seen : ℕ) → List CallWords → List Rec → Type 0
  AreTaskRecords plan log task call seen [] [] = Unit {0}
  AreTaskRecords plan log task call seen [] (r ∷ rs) = ⊥
  AreTaskRecords plan log task call seen (w ∷ ws) [] = ⊥
  AreTaskRecords plan log task call seen (w ∷ ws) (r ∷ rs) =
      IsRecord plan log seen (record { task = task; call = call }) w r × (seen ≤ r.k) × AreTaskRecords plan log task (call + 1) (seen_after (logs o w r.reply) r) ws rs

  abbrev pub AreRecords : Plan → List Entry → (task : ℕ) → Plan → Records → Type 0
  AreRecords plan log task [] [] = Unit {0}
  AreRecords plan log task [] (rs ∷ rss) = ⊥
  AreRecords plan log task (ws ∷ wss) [] = ⊥
  AreRecords plan log task (ws ∷ wss) (rs ∷ rss) = AreTaskRecords plan log task 0 0 ws rs × AreRecords plan log (task + 1) wss rss

  pub record IsLegal (plan : Plan) (records : Records) (log : List Entry) (state : List ℕ) : Type 0 where
    -- each call has exactly one record
    pub recorded : AreRecords plan log 0 plan records
    -- the log has exactly the calls that are logged, each once
    pub logged : (e : Entry) → count_by (entry_eq e) log ≡ count_by (λ v. event_logs o v && entry_eq e v.entry) (events_from 0 plan records)
    -- a task was interrupted no more often than signals are sent to it
    pub interrupted : (task : ℕ) (rs : List Rec) → slice_get records task ≡ Some rs → count_by (λ r. is_intr r.reply) rs ≤ sum_by (count_by (signals_to task)) plan
    -- the words store the state that the whole log leaves
    pub stored : state ≡ o.stores (state_after o plan log)

-- a snapshot has the words of these records and of this log, all of them in the ranges of their words
pub record Tells (words : Words) (records : Records) (entries : List Entry) : Type 0 where
  pub recs : words.recs ≡ flat_map (map rec_word) records
  pub fit : AllByRecursion (AllByRecursion IsRec) records
  pub log : words.log ≡ map entry_word entries
  pub entered : AllByRecursion IsEntry entries
