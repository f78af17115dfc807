-- What `perform` does.
use Rattle.std.specs.Prelude.{◌≡◌, ◌≢◌, ℕ, ◌+◌, ◌<◌, ◌≤◌, ◌&&◌, not, Bool, true, List, ◌∷◌, length, take, Some, None, IsSome}
use Rattle.word_bits.specs.Calls.{mode_of, signal_of}
use Rattle.word_bits.specs.Objects.{Obj, IsObjectReply}
use Rattle.word_bits.specs.Histories.{Plan, logs, changes}
use Rattle.word_bits.specs.Legal.{IsRecord, is_intr, seen_after}
use Rattle.lock_core.specs.Views.{committed, next_entry}
use Rattle.lock_core.specs.Records.{bit}
use Rattle.lock_core.specs.Tallies.{raised}
use Rattle.guarded.specs.declared.next.Next.{Next}
use Rattle.lock_core.specs.Kinds.{Kind, unavailable}
use Rattle.lock_core.specs.Shown.{Shown, NoCountFalls, IsNextCall}
use Rattle.lock_core.specs.Locking.{Has, HasSince, Begins, Sees, SawPending, Misses, Interrupts, KeepsPlace}
use Rattle.guarded.specs.States.{state_in}
use Rattle.guarded.specs.Types.{CallWords, Mode, Int, Try, Entry, Rec, Reply, Good, Num, Refused, MapErr, AccErr, Busy, Intr, Sent, Interrupted, No, Hand}

-- it is the next call of the pass's task
pub record IsNext {Call : Type 0} (o : Obj Call) (k : Plan) (h : Hand) (n : Next Call) : Type 0 where
  pub planned : IsNextCall k h n.words
  pub number : n.number ≡ h.done
  pub is : o.call_of n.words ≡ Some n.call

-- the next call of the pass's task sends a signal to this one
abbrev pub SendsNext : Plan → Hand → (target : ℕ) → Type 0
SendsNext k h target = (words : CallWords) × IsNextCall k h words × (signal_of words ≡ Some target)

-- the guarded words are these now, and all else is as before, but that the pass may write
abbrev pub HasStored : List ℕ → Shown → Shown → Type 0
HasStored words v u = (writes : Bool) × Has (record v.hand { writes = writes; known = words }) v u

-- it stored what the call makes of the state, and recorded the call at the end of the log
abbrev pub Changes : {Call : Type 0} → Obj Call → Plan → Call → Reply → Shown → Shown → Type 0
Changes o k call reply v u = HasSince (λ step. committed (record v.hand { known = o.stores (o.meaning (state_in o k v.hand) call).0 }) step (next_entry v.hand) reply) v u

-- no word
abbrev pub no_word : ℕ → Type 0
no_word word = ⊥

-- What a call counts, by whether a signal interrupted it: an interruption just then; that it stood in the list of waiters, exactly where it appended itself, which it did once at most, and surely if
-- it was interrupted; and a turn in the spin queue that didn't come, exactly where it swapped the queue's tail and wasn't its head.
pub record TalliesCall (cut : Bool) (v u : Shown) : Type 0 where
  pub interrupted : u.tally.interrupted ≡ raised cut v.tally.interrupted
  pub stood : Bool
  pub appends : u.line.appends ≡ v.line.appends + bit stood
  pub queued : u.tally.queued ≡ raised stood v.tally.queued
  pub surely : cut ≡ true → stood ≡ true
  pub refused : Bool
  pub entered : u.swaps + v.fronts ≡ v.swaps + u.fronts + bit refused
  pub left : u.tally.left ≡ raised refused v.tally.left

-- why a call never held the lock, by its reply; one that was interrupted counted that
abbrev pub Refuses : Kind → ℕ → Mode → Bool → Reply → Shown → Shown → Type 0
Refuses kind at mode reads (Busy word) v u = (mode ≡ Try) × Misses kind reads at word v u
Refuses kind at mode reads Intr v u = (mode ≡ Int) × ((why : Interrupted) × Interrupts kind reads at why v u) × TalliesCall true v u
Refuses kind at mode reads reply v u = ⊥

-- it failed one try at most, was in no list, wasn't the head of a spin queue, and counted nothing
abbrev pub TriesOnce : Shown → Shown → Type 0
TriesOnce v u = (u.line ≡ v.line) × (u.fronts ≡ v.fronts) × (u.hand.misses ≤ v.hand.misses + 1) × (u.tally ≡ v.tally)

-- how often a call with this reply comes to hold: not at all where it is a signal or couldn't have the lock, and else once
abbrev pub takes_by : Reply → ℕ
takes_by Good = 1
takes_by (Num n) = 1
takes_by (Refused x) = 1
takes_by MapErr = 1
takes_by AccErr = 1
takes_by (Busy word) = 0
takes_by Intr = 0
takes_by Sent = 0

-- it made this record of its task's next call, and has then seen this log; it has not come to hold anew
pub record AddsRecord (rec : Rec) (seen : List Entry) (v u : Shown) : Type 0 where
  pub task : u.hand.task ≡ v.hand.task
  pub done : u.hand.done ≡ v.hand.done + 1
  pub records : u.hand.records ≡ record { entry = next_entry v.hand; rec = rec } ∷ v.hand.records
  pub seen_is : u.hand.seen ≡ seen
  pub sent : u.hand.sent ≡ v.hand.sent
  pub consumed : u.hand.consumed ≡ v.hand.consumed
  pub saw : u.hand.saw ≡ v.hand.saw
  pub misses : u.hand.misses ≡ v.hand.misses
  pub takes : u.hand.takes ≡ v.hand.takes
  pub fronts : u.fronts ≡ v.fronts
  pub line : u.line ≡ v.line
  pub swaps : u.swaps ≡ v.swaps
  pub tally : u.tally ≡ v.tally
  pub counts : NoCountFalls v u
  -- the step that stored it is one of these steps
  pub stored : (v.steps < u.hand.last) × (u.hand.last ≤ u.steps)

-- a pass that holds did the call, recorded it at the end of the log that it knew, and holds nothing
pub record Serves {Call : Type 0} (o : Obj Call) (kind : Kind) (k : Plan) (words : CallWords) (reply : Reply) (v u : Shown) : Type 0 where
  pub rec : Rec
  pub says : rec ≡ record { k = length v.hand.log; reply = reply }
  pub means : (seen : ℕ) → IsRecord o (unavailable kind) k u.hand.seen seen (next_entry v.hand) words rec
  pub replies : IsObjectReply reply
  pub begins : take (length v.hand.log) u.hand.seen ≡ v.hand.log
  pub sees : length u.hand.seen ≡ seen_after (logs o words reply) rec
  pub adds : AddsRecord rec u.hand.seen v u
  pub out : u.hand.held ≡ No

-- it added one record of its task's next call, which says what the call replied at its place, and holds nothing
pub record Performs {Call : Type 0} (o : Obj Call) (kind : Kind) (at : ℕ) (k : Plan) (reply : Reply) (v u : Shown) : Type 0 where
  pub words : CallWords
  pub rec : Rec
  pub next : IsNextCall k v.hand words
  pub says : rec.reply ≡ reply
  -- the record is lawful on the log as far as the pass has seen it now, and so on every later one
  pub means : IsRecord o (unavailable kind) k u.hand.seen (length v.hand.seen) (next_entry v.hand) words rec
  pub after : length v.hand.seen ≤ rec.k
  -- it has seen what its task has seen with this record, and what it had seen begins that
  pub sees : length u.hand.seen ≡ seen_after (logs o words reply) rec
  pub begins : Begins v.hand u.hand.seen
  pub records : u.hand.records ≡ record { entry = next_entry v.hand; rec = rec } ∷ v.hand.records
  pub task : u.hand.task ≡ v.hand.task
  pub done : u.hand.done ≡ v.hand.done + 1
  pub out : u.hand.held ≡ No
  -- it held without a step between, from the one that took to the one that let go
  pub takes : u.hand.takes ≡ v.hand.takes + takes_by reply
  pub accounted : (u.hand.sent ≡ None) × (u.hand.consumed ≡ 0)
  pub counts : NoCountFalls v u
  -- the step that stored its record, the call's linearization point, is one of this call's
  pub stored : (v.steps < u.hand.last) × (u.hand.last ≤ u.steps)
  -- a signal is sent, and nothing else is; it counts nothing
  pub signals : IsSome (signal_of words) → (reply ≡ Sent) × (u.tally ≡ v.tally)
  -- a try of this call saw the word of a busy call, and steps of an interrupted one saw the signal and that the lock was taken
  pub busy : (word : ℕ) → reply ≡ Busy word → (c : Call) × (o.call_of words ≡ Some c) × Sees kind (o.reads c) at word v u
  pub interrupted : reply ≡ Intr → (c : Call) × (why : Interrupted) × (word : ℕ) × (o.call_of words ≡ Some c) × SawPending why v u × Sees kind (o.reads c) at word v u
  -- a call in mode try doesn't wait
  pub at_once : mode_of words ≡ Try → TriesOnce v u
  -- it counts an interruption exactly where that is its reply
  pub counted : TalliesCall (is_intr reply) v u
  -- one that waits keeps its place in line
  pub line : mode_of words ≢ Try → KeepsPlace kind (not (changes o words) && not (is_intr reply)) at v u
