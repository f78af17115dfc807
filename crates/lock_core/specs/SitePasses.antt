-- A pass with its seat.
use Rattle.std.specs.Prelude.{◌≡◌, ◌≢◌, ℕ, zero, suc, ◌+◌, ◌*◌, ◌<◌, ◌≤◌, ◌⊎◌, Bool, true, false, List, [], length, take, slice_get, Some, None}
use Rattle.word_bits.specs.RecWord.{IsRec, rec_word}
use Rattle.word_bits.specs.LockWords.{Unavailable}
use Rattle.word_bits.specs.Objects.{Obj}
use Rattle.word_bits.specs.Calls.{mode_of, signal_of}
use Rattle.word_bits.specs.Histories.{Plan, state_after, logs}
use Rattle.word_bits.specs.Legal.{IsRecord, seen_after}
use Rattle.atomic_table.specs.Table.{Me}
use Rattle.atomic_table.specs.Seated.{TableId}
use Rattle.lock_core.specs.declared.pass.Face.{Face}
use Rattle.lock_core.specs.declared.layout.TheConstants.{ENTRIES_AT, LINES_AT}
use Rattle.word_bits.specs.EntryWord.{entry_word}
use Rattle.lock_core.specs.Sites.{SawSince, ServedBy, WasInterrupted, consumed_at}
use Rattle.lock_core.specs.Plans.{calls_in, start}
use Rattle.lock_core.specs.Layout.{recs_at, calls_at}
use Rattle.lock_core.specs.Records.{row, seen_by, AreNext}
use Rattle.lock_core.specs.Types.{CallWords, Entry, Rec, Reply, Busy, Intr, Sent, Int, Try, Seen, Saw, Heard, View, Interrupted, Hand, No, Alone, Rest, Logged}
use Rattle.lock_core.specs.Views.{front, became, quieted, hearing, consuming, longer, owed_of, Knows, KnowsFirst, OwesNoSignal, handed}

-- the seat is one of the table's, and the pass says of itself what the view does
pub record Sits {E : Type 0} (k : Plan) (table : TableId) (seat : TableId) (me : Me (Unit {0}) (Seen E)) (face : Face) : Type 0 where
  pub own : seat ≡ table
  pub slots : me.1 ≡ []
  pub plan : me.0.view.hand.plan ≡ Some k
  pub task : face.task ≡ me.0.view.hand.task
  pub held : face.held ≡ me.0.view.hand.held
  pub done : face.done ≡ me.0.view.hand.done
  pub front : face.front ≡ front me.0.view.hand
  pub stage : me.0.view.hand.stage ≡ Rest
  pub latest : me.0.view.hand.last ≤ me.0.view.steps
  pub short : length me.0.view.hand.log ≤ calls_in k
  pub shorter : length me.0.view.hand.seen ≤ calls_in k
  pub planned : (t : ℕ) → face.task ≡ Some t → (t < length k) × (face.done ≤ length (row k t))
  pub saw : (x : Saw) → me.0.view.hand.saw ≡ Some x → x.word < 4194304
  pub writer : me.0.view.hand.writes ≡ true → me.0.view.hand.held ≡ Alone
  pub nameless : me.0.view.hand.task ≡ None → (me.0.view.hand.held ≡ No) × (me.0.view.hand.sent ≡ None) × (me.0.view.hand.consumed ≡ 0)

-- the word is that of the call's record, where the pass knows it
abbrev pub TellsKnown : Hand → Entry → ℕ → Type 0
TellsKnown h e word = (r : Rec) → Knows h e r → word ≡ rec_word r

-- what a load of the word of a call's record tells a pass with this hand
pub record Shows (h : Hand) (e : Entry) (word : ℕ) : Type 0 where
  -- a record that it knows is there
  pub known : TellsKnown h e word
  -- any word but 0 is that of a record
  pub made : word ≢ 0 → (r : Rec) × IsRec r × (word ≡ rec_word r)
  -- its own task's later calls have none
  pub mine : h.task ≡ Some e.task → h.done ≤ e.call → word ≡ 0

-- what a pass becomes that takes a number: it has the task's records, each as the rule says, and has seen what the task had
abbrev pub Numbered : {Call : Type 0} → Obj Call → Unavailable → Plan → Hand → ℕ → Hand → Type 0
Numbered o unavailable k h t g = (rs : List Rec) × (log : List Entry) × AreNext o unavailable k log t 0 0 (row k t) rs × (length log ≤ calls_in k)
    × (g ≡ became h t rs (longer h.seen (take (seen_by o 0 (row k t) rs) log)))

-- a task of which so many calls are recorded has seen so many entries, by the records that the pass knows
abbrev pub HasSeenAfter : {Call : Type 0} → Obj Call → Unavailable → Plan → Hand → (task done n : ℕ) → Type 0
HasSeenAfter o unavailable k h t done n = (rs : List Rec) (log : List Entry) → length rs ≡ done → AreNext o unavailable k log t 0 0 (row k t) rs → KnowsFirst h t rs → n ≡ seen_by o 0 (row k t) rs

-- after this call it had seen so many, by the record that the pass knows
abbrev pub HasSeenAfterCall : {Call : Type 0} → Obj Call → Plan → Hand → (task call n : ℕ) → Type 0
HasSeenAfterCall o k h t c n = (w : CallWords) (r : Rec) → slice_get (row k t) c ≡ Some w → Knows h (record { task = t; call = c }) r → IsRec r → n ≡ seen_after (logs o w r.reply) r

-- the first or the second word of a call
abbrev pub half_of : ℕ → CallWords → ℕ
half_of zero w = w.a
half_of (suc n) w = w.b

-- what a load tells of the site's word at this place

-- the log's length, which leaves room for the pass's next call
abbrev pub IsLength : Hand → ℕ → ℕ → Type 0
IsLength h at n = (n ≡ length h.log) × (length h.seen ≤ n) × ((k : Plan) → h.plan ≡ Some k → (n ≤ calls_in k)
    × ((t : ℕ) → h.task ≡ Some t → h.done < length (row k t) → h.stage ≡ Rest → h.held ≡ Alone → n < calls_in k))

abbrev pub IsEntryAt : Hand → ℕ → ℕ → Type 0
IsEntryAt h at n = (j : ℕ) (e : Entry) → at ≡ ENTRIES_AT + j → slice_get h.log j ≡ Some e → n ≡ entry_word e

abbrev pub IsCallWord : Hand → ℕ → ℕ → Type 0
IsCallWord h at n = (k : Plan) (t c half : ℕ) (w : CallWords) → h.plan ≡ Some k → half < 2 → at ≡ calls_at k + (2 * (start k t + c) + half) → slice_get (row k t) c ≡ Some w → n ≡ half_of half w

abbrev pub IsRecWord : Hand → ℕ → ℕ → Type 0
IsRecWord h at n = (k : Plan) (t c : ℕ) → h.plan ≡ Some k → c < length (row k t) → at ≡ recs_at k + (start k t + c) → Shows h (record { task = t; call = c }) n

-- how many signals its task has consumed, for a pass that heard of them
abbrev pub IsTaken : Hand → ℕ → ℕ → Type 0
IsTaken h at n = (p : Heard) (t : ℕ) → h.heard ≡ Some p → h.task ≡ Some t → at ≡ LINES_AT + consumed_at t → n ≡ p.taken

-- a load found that so many signals were sent to the pass's task
abbrev pub Hears : Hand → ℕ → Hand → Type 0
Hears h n g = (p : Heard) × (p.sent ≡ n) × (g ≡ hearing h p)

-- a load after which the pass writes no more
abbrev pub Quiets : Hand → ℕ → Hand → Type 0
Quiets h n g = g ≡ quieted h

-- such a load is all that came between the two views
abbrev pub HearsOf : {E : Type 0} → ℕ → View E → View E → Type 0
HearsOf n v u = (g : Hand) × Hears v.hand n g × (u ≡ handed v g)

-- it consumed one of more signals than its task had consumed, in three steps
pub record Consumes {E : Type 0} (why : Interrupted) (v u : View E) : Type 0 where
  pub pending : why.taken < why.sent
  pub now : u ≡ record v { hand = consuming v.hand; steps = v.steps + 3 }

-- two loads saw that no more were sent than its task had consumed
pub record HearsOfNone {E : Type 0} (why : Interrupted) (v u : View E) : Type 0 where
  pub none_pending : why.sent ≤ why.taken
  pub now : u ≡ record v { hand = hearing v.hand (record { sent = why.sent; taken = why.taken }); steps = v.steps + 2 }

-- the record settles what the pass owes: nothing, or the record of the log's last entry, which it then is
abbrev pub Settles : {Call : Type 0} → Obj Call → Hand → List Entry → Entry → CallWords → Rec → Type 0
Settles o h log e w r = (owed_of h ≡ 0) ⊎ ((h.stage ≡ Logged e) × (r.k + 1 ≡ length log) × (logs o w r.reply ≡ true))

-- how a record with this reply accounts for signals: it is of the one that the pass consumed or sent and hasn't recorded, or there is none
abbrev pub Accounts : Hand → CallWords → Reply → Type 0
Accounts h w Intr = (h.sent ≡ None) × (h.consumed ≡ 1)
Accounts h w Sent = (h.consumed ≡ 0) × ((t : ℕ) × (h.sent ≡ Some t) × (signal_of w ≡ Some t))
Accounts h w reply = OwesNoSignal h

-- what a pass may record of its task's next call: the record says, whatever the log is, what the call replied there
pub record MayRecord {Call : Type 0} (o : Obj Call) (unavailable : Unavailable) (unheld : Bool) (k : Plan) (h : Hand) (e : Entry) (w : CallWords) (r : Rec) (seen : List Entry) : Type 0 where
  pub task : h.task ≡ Some e.task
  pub call : h.done ≡ e.call
  pub planned : slice_get (row k e.task) e.call ≡ Some w
  pub fits : IsRec r
  pub enough : seen_after (logs o w r.reply) r ≤ length seen
  pub busy : (word : ℕ) → r.reply ≡ Busy word → SawSince h word
  pub interrupted : r.reply ≡ Intr → WasInterrupted h
  pub served : ServedBy unheld (length h.log) h r.k r.reply
  pub accounts : Accounts h w r.reply
  pub means : (log : List Entry) → (h.held ≢ No → h.log ≡ log) → (length h.seen ≤ length log) × (take (length h.seen) log ≡ h.seen)
      → IsRecord o unavailable k log r.k e w r × (owed_of h ≡ 0 → length h.seen ≤ r.k) × (length seen ≤ length log) × (take (length seen) log ≡ seen) × Settles o h log e w r

-- the task's next call changes the object, the guarded words represent what it leaves of the state after the log, and this is its reply
pub record IsChange {Call : Type 0} (o : Obj Call) (k : Plan) (h : Hand) (e : Entry) (reply : Reply) : Type 0 where
  pub words : CallWords
  pub call : Call
  pub planned : slice_get (row k e.task) e.call ≡ Some words
  pub is : o.call_of words ≡ Some call
  pub changes : o.reads call ≡ false
  pub stored : o.Represents (o.meaning (state_after o k h.log) call).0 h.known
  pub replies : reply ≡ (o.meaning (state_after o k h.log) call).1

-- the task's next call reads, and this is its reply on the state after the log, which the guarded words represent
pub record IsReading {Call : Type 0} (o : Obj Call) (k : Plan) (h : Hand) (e : Entry) (reply : Reply) : Type 0 where
  pub words : CallWords
  pub call : Call
  pub planned : slice_get (row k e.task) e.call ≡ Some words
  pub is : o.call_of words ≡ Some call
  pub reads : o.reads call ≡ true
  pub held : h.held ≢ No
  pub stored : o.Represents (state_after o k h.log) h.known
  pub replies : reply ≡ (o.meaning (state_after o k h.log) call).1

-- the task's next call reads, and this is its reply on the state after what the pass has seen of the log
pub record IsSeenReading {Call : Type 0} (o : Obj Call) (k : Plan) (h : Hand) (e : Entry) (reply : Reply) : Type 0 where
  pub words : CallWords
  pub call : Call
  pub planned : slice_get (row k e.task) e.call ≡ Some words
  pub is : o.call_of words ≡ Some call
  pub reads : o.reads call ≡ true
  pub replies : reply ≡ (o.meaning (state_after o k h.seen) call).1

-- the task's next call doesn't wait, and a try since the pass's last record saw this word, which shows that the call can't have the lock
pub record IsBusy {Call : Type 0} (o : Obj Call) (unavailable : Unavailable) (k : Plan) (h : Hand) (e : Entry) (word : ℕ) : Type 0 where
  pub words : CallWords
  pub call : Call
  pub planned : slice_get (row k e.task) e.call ≡ Some words
  pub is : o.call_of words ≡ Some call
  pub tries : mode_of words ≡ Try
  pub free : h.held ≡ No
  pub saw : Saw
  pub seen : h.saw ≡ Some saw
  pub word_is : saw.word ≡ word
  pub since : h.last < saw.step
  pub shut : unavailable (o.reads call) word

-- the task's next call is a signal to this task
pub record IsSignal (k : Plan) (e : Entry) (target : ℕ) : Type 0 where
  pub words : CallWords
  pub planned : slice_get (row k e.task) e.call ≡ Some words
  pub is : signal_of words ≡ Some target

-- the task's next call waits for signals, its pass has consumed one since its last record, and a try since then saw a word which shows that the call can't have the lock
pub record IsInterrupted {Call : Type 0} (o : Obj Call) (unavailable : Unavailable) (k : Plan) (h : Hand) (e : Entry) : Type 0 where
  pub words : CallWords
  pub call : Call
  pub planned : slice_get (row k e.task) e.call ≡ Some words
  pub is : o.call_of words ≡ Some call
  pub waits : mode_of words ≡ Int
  pub free : h.held ≡ No
  pub consumed : h.consumed ≡ 1
  pub saw : Saw
  pub seen : h.saw ≡ Some saw
  pub since : h.last < saw.step
  pub shut : unavailable (o.reads call) saw.word

-- the task's next call is a signal, which its pass has sent and not recorded
pub record IsSent (k : Plan) (h : Hand) (e : Entry) : Type 0 where
  pub target : ℕ
  pub words : CallWords
  pub planned : slice_get (row k e.task) e.call ≡ Some words
  pub is : signal_of words ≡ Some target
  pub free : h.held ≡ No
  pub sent : h.sent ≡ Some target

-- it is the word of the log's entry at this place
abbrev pub IsEntryWord : Hand → ℕ → ℕ → Type 0
IsEntryWord h at word = (e : Entry) → slice_get h.log at ≡ Some e → word ≡ entry_word e

-- what a pass may note
abbrev pub MayNote : {Call : Type 0} → Obj Call → Unavailable → Plan → Hand → Entry → Reply → Type 0
MayNote o unavailable k h e (Busy word) = IsBusy o unavailable k h e word
MayNote o unavailable k h e Intr = IsInterrupted o unavailable k h e
MayNote o unavailable k h e Sent = IsSent k h e
MayNote o unavailable k h e reply = IsReading o k h e reply
