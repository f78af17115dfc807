-- The site's own facts, over its words and the hands of all views.
use Rattle.std.specs.Prelude.{◌≡◌, ◌≢◌, ℕ, ◌+◌, ◌-◌, ◌*◌, ◌<◌, ◌≤◌, ◌⊎◌, Bool, true, List, length, take, map, slice_get, slice_index, slice_set, Option, Some, None}
use Rattle.word_bits.specs.declared.TheConstants.{MAX_TASKS}
use Rattle.word_bits.specs.Calls.{signal_of}
use Rattle.word_bits.specs.RecWord.{IsRec, rec_word}
use Rattle.word_bits.specs.EntryWord.{entry_word}
use Rattle.word_bits.specs.LockWords.{Unavailable}
use Rattle.word_bits.specs.Objects.{Obj}
use Rattle.word_bits.specs.Histories.{Plan, Records, state_after}
use Rattle.lock_core.specs.declared.layout.TheConstants.{LOCK_WORDS, LINES_AT}
use Rattle.lock_core.specs.Plans.{IsSmall, calls_in, call_words, start}
use Rattle.lock_core.specs.Layout.{SiteWords, site_width}
use Rattle.lock_core.specs.Records.{row, rec_words, sends, intrs, IsPlan, IsLoggedAt, seen_by, AreNext}
use Rattle.lock_core.specs.Views.{held_of, alone_of, writes_of, owed_of, named_of, sent_of, consumed_of, strength, OwesNoSignal}
use Rattle.lock_core.specs.Totals.{total}
use Rattle.lock_core.specs.Types.{CallWords, Entry, Rec, Reply, Busy, Intr, Sent, Hand, Heard, Told, Saw, No, Alone, Entered, Logged}
use Rattle.lock_core.specs.ViewParts.{Each}

-- the weights of all hands, added up
pub record Tally : Type 0 where
  pub held : ℕ
  pub alone : ℕ
  pub writes : ℕ
  pub owed : ℕ
  pub named : ℕ → ℕ
  pub sent : ℕ → ℕ
  pub consumed : ℕ → ℕ

abbrev pub tally : List Hand → Tally
tally hs = record {
  held = total held_of hs;
  alone = total alone_of hs;
  writes = total writes_of hs;
  owed = total owed_of hs;
  named = λ t. total (named_of t) hs;
  sent = λ t. total (sent_of t) hs;
  consumed = λ t. total (consumed_of t) hs;
}

-- a live view has the table's plan
abbrev pub HasPlan : Plan → Option Plan → Type 0
HasPlan k None = Unit {0}
HasPlan k (Some p) = p ≡ k

-- the first of the three words of a task's line: whether its number is taken
abbrev pub taken_at : ℕ → ℕ
taken_at t = 8 * t

abbrev pub sent_at : ℕ → ℕ
sent_at t = 8 * t + 1

abbrev pub consumed_at : ℕ → ℕ
consumed_at t = 8 * t + 2

-- the words of a table that count them
abbrev pub sent_place : ℕ → ℕ
sent_place t = LOCK_WORDS + (LINES_AT + sent_at t)

abbrev pub consumed_place : ℕ → ℕ
consumed_place t = LOCK_WORDS + (LINES_AT + consumed_at t)

-- what a pass heard of the signals to its task: as many are consumed, and no fewer are sent
abbrev pub HeardOk : List ℕ → Hand → Type 0
HeardOk lines h = (p : Heard) (t : ℕ) → h.heard ≡ Some p → h.task ≡ Some t → (slice_index lines (consumed_at t) ≡ p.taken) × (p.sent ≤ slice_index lines (sent_at t))

module _ {Call : Type 0} (o : Obj Call) (unavailable : Unavailable) (size : ℕ) (k : Plan) where
  -- what never changes
  pub record IsLaid (w : SiteWords) : Type 0 where
    pub wide : w.wide ≡ site_width k
    pub calls : w.calls ≡ call_words k
    pub planned : IsPlan o k
    pub small : IsSmall k
    pub guarded : length w.guarded ≡ LINES_AT
    pub lines : length w.lines ≡ 8 * MAX_TASKS
    pub room : length w.entries ≡ calls_in k

  -- the words are those of this log and of these records
  pub record Tells (len : ℕ) (entries recs : List ℕ) (log : List Entry) (told : Records) : Type 0 where
    pub tasks : length told ≡ length k
    pub many : len ≡ length log
    pub within : length log ≤ calls_in k
    pub entered : take (length log) entries ≡ map entry_word log
    pub filled : recs ≡ rec_words k told
    pub legal : (t : ℕ) → AreNext o unavailable k log t 0 0 (row k t) (row told t)

  -- what the views are together
  pub record Balances (guarded lines : List ℕ) (log : List Entry) (told : Records) (s : Tally) : Type 0 where
    -- who holds alone has no other beside it
    pub apart : 0 < s.alone → s.held ≤ 1
    -- where nobody writes, the guarded words represent the state after the log
    pub quiet : s.writes ≡ 0 → o.Represents (state_after o k log) (take size guarded)
    -- each entry has its record, but for the last one where a view owes it
    pub recorded : (j : ℕ) (e : Entry) → slice_get log j ≡ Some e → j + s.owed < length log → IsLoggedAt o k told e j
    pub few : length log ≤ calls_in told + s.owed
    pub named : (t : ℕ) → t < MAX_TASKS → (slice_index lines (taken_at t) ≡ s.named t) × (s.named t ≤ 1)
    pub sent : (t : ℕ) → t < MAX_TASKS → slice_index lines (sent_at t) ≡ sends t k told + s.sent t
    pub consumed : (t : ℕ) → t < MAX_TASKS → slice_index lines (consumed_at t) ≡ intrs (row told t) + s.consumed t
    pub pending : (t : ℕ) → t < MAX_TASKS → slice_index lines (consumed_at t) ≤ slice_index lines (sent_at t)

  -- what is so of each view; `next` is the word behind the log's last one
  pub record HandOk (guarded : List ℕ) (next : ℕ) (log : List Entry) (told : Records) (h : Hand) : Type 0 where
    pub plan : HasPlan k h.plan
    pub known : h.held ≢ No → (h.known ≡ take size guarded) × (h.log ≡ log)
    pub writer : h.writes ≡ true → h.held ≡ Alone
    pub seen : (length h.seen ≤ length log) × (take (length h.seen) log ≡ h.seen)
    pub entered : (e : Entry) → h.stage ≡ Entered e → (h.held ≡ Alone) × (next ≡ entry_word e)
    pub logged : (e : Entry) → h.stage ≡ Logged e → (h.held ≡ Alone) × (h.task ≡ Some e.task) × (h.done ≡ e.call) × (slice_get log (length log - 1) ≡ Some e) × (length h.seen < length log)
    pub mine : (t : ℕ) → h.task ≡ Some t → (t < length k) × (h.done ≡ length (row told t)) × (seen_by o 0 (row k t) (row told t) ≤ length h.seen)
    pub nameless : h.task ≡ None → (h.held ≡ No) × (h.sent ≡ None) × (h.consumed ≡ 0)
    -- who sent a signal that isn't recorded is at the call that sends it
    pub signals : (t : ℕ) → h.sent ≡ Some t → (u : ℕ) × (words : CallWords) × (h.task ≡ Some u) × (slice_get (row k u) h.done ≡ Some words) × (signal_of words ≡ Some t)
    pub knows : (i : ℕ) (x : Told) → slice_get h.records i ≡ Some x → slice_get (row told x.entry.task) x.entry.call ≡ Some x.rec
    pub saw : (x : Saw) → h.saw ≡ Some x → x.word < 4194304

  pub record SiteKept (w : SiteWords) (hs : List Hand) : Type 0 where
    pub log : List Entry
    pub told : Records
    pub laid : IsLaid w
    pub tells : Tells w.len w.entries w.recs log told
    pub balances : Balances w.guarded w.lines log told (tally hs)
    pub heard : Each (HeardOk w.lines) hs
    pub each : Each (HandOk w.guarded (slice_index w.entries w.len) log told) hs

-- the log's entries stay, and more may come
abbrev pub Grows : SiteWords → SiteWords → Type 0
Grows w w' = (w.len ≤ w'.len) × (take w.len w'.entries ≡ take w.len w.entries)

-- at a step after it last recorded, a pass with this hand saw this word
abbrev pub SawSince : Hand → ℕ → Type 0
SawSince h word = (saw : Saw) × (h.saw ≡ Some saw) × (saw.word ≡ word) × (h.last < saw.step)

-- since it last recorded, a pass with this hand consumed one signal, and a try of it failed, which saw a word
abbrev pub WasInterrupted : Hand → Type 0
WasInterrupted h = (h.consumed ≡ 1) × ((word : ℕ) × SawSince h word)

-- the task's next call is a signal, and a pass with this hand has sent one to its target since it last recorded
abbrev pub HasSent : Plan → (task : ℕ) → Hand → Type 0
HasSent k task h = (words : CallWords) × (target : ℕ) × (slice_get (row k task) h.done ≡ Some words) × (signal_of words ≡ Some target) × (h.sent ≡ Some target)

-- what every step of a pass does to its hand: its misses and the number of its takes don't fall, what its last release left stays while it holds as before, and each step by which it comes to hold, or
-- to hold alone, counts a take
pub record HoldGoes (h g : Hand) : Type 0 where
  pub misses : h.misses ≤ g.misses
  pub freed : g.held ≡ h.held → g.freed ≡ h.freed
  pub takes : h.takes ≤ g.takes
  pub comes : strength h.held < strength g.held → h.takes < g.takes

-- the same, of a step that leaves the records and the log: the number of the step that last stored a record stays, and so does how many the pass owes
abbrev pub HandGoes : Hand → Hand → Type 0
HandGoes h g = HoldGoes h g × (g.last ≡ h.last) × (owed_of g ≡ owed_of h)

-- it counts no failed try, and what it keeps as seen of the lock's word is as before, under the same number, or forgotten
abbrev pub KeepsSaw : Hand → Hand → Type 0
KeepsSaw h g = (g.misses ≡ h.misses) × (((g.saw ≡ h.saw) × (g.task ≡ h.task)) ⊎ (g.saw ≡ None))

-- a try failed, of a pass that holds nothing, at the step of this number, where the lock's word was this one: it is counted, and the word is kept as seen, under the number that the pass has before
-- and after
pub record FailsTry (step word : ℕ) (h g : Hand) : Type 0 where
  pub out : h.held ≡ No
  pub counts : g.misses ≡ h.misses + 1
  pub saw : g.saw ≡ Some (record { word = word; step = step })
  pub task : g.task ≡ h.task

-- how the step of this number, before which the lock's word was this one, may change what the pass keeps of failed tries
abbrev pub SawGoes : (step word : ℕ) → Hand → Hand → Type 0
SawGoes step word h g = KeepsSaw h g ⊎ FailsTry step word h g

-- the pass holds, and the call stands where the log, which has so many entries, ends: behind its last entry, or as its last entry, whose record the pass owes
abbrev pub StandsLast : (len : ℕ) → Hand → (place : ℕ) → Type 0
StandsLast len h place = (h.held ≢ No) × (place + owed_of h ≡ len)

-- where a pass with this hand stands that records a call with this reply. A call that replies busy, EINTR or sent is none of the log. Any other is recorded under a hold, where the log ends, but that
-- a call which isn't logged needn't be where calls may read without a hold.
abbrev pub ServedBy : (unheld : Bool) → (len : ℕ) → Hand → (place : ℕ) → Reply → Type 0
ServedBy unheld len h place (Busy word) = owed_of h ≡ 0
ServedBy unheld len h place Intr = owed_of h ≡ 0
ServedBy unheld len h place Sent = owed_of h ≡ 0
ServedBy unheld len h place reply = StandsLast len h place ⊎ ((unheld ≡ true) × (owed_of h ≡ 0))

-- The step of this number stores the record of the next call of the pass's own task, in its place among all records. One that says that the lock was taken has a word that the pass saw since it last
-- recorded. Before one that says that the call was interrupted, the pass consumed one signal and saw a word. Before one that says that a signal was sent, the pass sent it. Every signal that the pass
-- sent or consumed is then recorded. One with another reply is stored under a hold, unless calls may read without one (`ServedBy`).
pub record StoresRecord (unheld : Bool) (step : ℕ) (w w' : SiteWords) (h g : Hand) : Type 0 where
  pub plan : Plan
  pub planned : h.plan ≡ Some plan
  pub task : ℕ
  pub named : h.task ≡ Some task
  pub next : h.done < length (row plan task)
  pub rec : Rec
  pub fits : IsRec rec
  -- no record was stored there before
  pub empty : slice_index w.recs (start plan task + h.done) ≡ 0
  pub stored : w'.recs ≡ slice_set w.recs (start plan task + h.done) (rec_word rec)
  pub busy : (word : ℕ) → rec.reply ≡ Busy word → SawSince h word
  pub interrupted : rec.reply ≡ Intr → WasInterrupted h
  pub sent : rec.reply ≡ Sent → HasSent plan task h
  pub served : ServedBy unheld w.len h rec.k rec.reply
  pub settled : OwesNoSignal g
  -- the log stays, and no record is owed then
  pub len : w'.len ≡ w.len
  pub paid : owed_of g ≡ 0
  pub done : g.done ≡ h.done + 1
  pub last : g.last ≡ step

-- the log grows by as many entries as the pass then owes records more
abbrev pub OwesGrowth : SiteWords → SiteWords → Hand → Hand → Type 0
OwesGrowth w w' h g = w'.len + owed_of h ≡ w.len + owed_of g

-- the step of this number stores no record, the pass last recorded when it did, and owes a record for each entry by which the log grows, or it stores the next one of the pass's task
abbrev pub RecordsGo : (unheld : Bool) → (step : ℕ) → SiteWords → SiteWords → Hand → Hand → Type 0
RecordsGo unheld step w w' h g = ((w'.recs ≡ w.recs) × (g.last ≡ h.last) × OwesGrowth w w' h g) ⊎ StoresRecord unheld step w w' h g

-- the guarded words and the log stay
pub record SameObject (w w' : SiteWords) : Type 0 where
  pub guarded : w'.guarded ≡ w.guarded
  pub len : w'.len ≡ w.len
  pub entries : w'.entries ≡ w.entries

-- what the step of this number, of a pass with the first hand, which then has the second, does to the site's words and to the hand; `unheld` says whether calls may read without a hold
pub record SiteStep (unheld : Bool) (step : ℕ) (w w' : SiteWords) (h g : Hand) : Type 0 where
  pub grows : Grows w w'
  pub records : RecordsGo unheld step w w' h g
  -- who doesn't hold alone leaves the guarded words and the log
  pub quiet : h.held ≢ Alone → SameObject w w'
  pub hand : HoldGoes h g
