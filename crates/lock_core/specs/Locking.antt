-- What each call of a lock does to its pass, whatever the lock is.
use Rattle.std.specs.Prelude.{◌≡◌, ℕ, ◌+◌, ◌<◌, ◌≤◌, ◌⊎◌, Bool, true, false, List, length, take, Result, Some, if◌then◌else◌}
use Rattle.word_bits.specs.Objects.{Obj}
use Rattle.word_bits.specs.Histories.{Plan, state_after}
use Rattle.lock_core.specs.Records.{bit}
use Rattle.lock_core.specs.Sites.{sent_place, consumed_place}
use Rattle.lock_core.specs.Tallies.{left, raised, stood_in_list, was_interrupted}
use Rattle.lock_core.specs.Shown.{Shown, NoCountFalls, AllButHand, FindsAtStep, FindsSince, LeavesHold}
use Rattle.lock_core.specs.Kinds.{Kind, shares, unavailable, tries, lets_in, wakes_down}
use Rattle.lock_core.specs.Types.{Entry, Hand, Saw, Held, No, Alone, How, Fast, Spun, Slept, Interrupted}

-- it only looked: all is as before but for the number of its steps
abbrev pub Looks : Shown → Shown → Type 0
Looks v u = (u.hand ≡ v.hand) × AllButHand v u

-- it has this hand now, after some steps
abbrev pub Has : Hand → Shown → Shown → Type 0
Has h v u = (u.hand ≡ h) × AllButHand v u

-- the same, and the hand is that of the step of this number, one of those steps
abbrev pub HasSince : (ℕ → Hand) → Shown → Shown → Type 0
HasSince h v u = (step : ℕ) × (v.steps < step) × (step ≤ u.steps) × Has (h step) v u

-- it recorded nothing: its number, its calls that are done, the log that it has seen, its records and the signals that it sent are as before
pub record Keeps (v u : Shown) : Type 0 where
  pub task : u.hand.task ≡ v.hand.task
  pub done : u.hand.done ≡ v.hand.done
  pub seen : u.hand.seen ≡ v.hand.seen
  pub records : u.hand.records ≡ v.hand.records
  pub sent : u.hand.sent ≡ v.hand.sent
  pub last : u.hand.last ≡ v.hand.last
  pub counts : NoCountFalls v u

-- it recorded nothing, and has taken and ended no hold: tries failed, and loads heard of signals
pub record OnlyTried (v u : Shown) : Type 0 where
  pub keeps : Keeps v u
  pub consumed : u.hand.consumed ≡ v.hand.consumed
  pub takes : u.hand.takes ≡ v.hand.takes
  pub freed : u.hand.freed ≡ v.hand.freed

-- the guarded words represent the state after the log
abbrev pub IsStored : {Call : Type 0} → Obj Call → Plan → Hand → Type 0
IsStored o k h = o.Represents (state_after o k h.log) h.known

-- the log begins with what this pass had seen
abbrev pub Begins : Hand → List Entry → Type 0
Begins h log = (length h.seen ≤ length log) × (take (length h.seen) log ≡ h.seen)

-- it holds in this way, by one take, and has learnt the guarded words, which represent the state after the log, and the log, which begins with what it had seen
pub record Takes {Call : Type 0} (o : Obj Call) (k : Plan) (held : Held) (v u : Shown) : Type 0 where
  pub keeps : Keeps v u
  pub consumed : u.hand.consumed ≡ v.hand.consumed
  pub holds : u.hand.held ≡ held
  pub quiet : u.hand.writes ≡ false
  pub stored : IsStored o k u.hand
  pub begins : Begins v.hand u.hand.log
  pub takes : u.hand.takes ≡ v.hand.takes + 1
  pub freed : u.hand.freed ≡ v.hand.freed

-- how a call holds that reads, or that changes
abbrev pub held_by : Kind → Bool → Held
held_by kind reads = if reads then shares kind else Alone

-- a try of this call saw the lock's word, which stands at this place and shows that such a call can't have the lock
pub record Sees (kind : Kind) (reads : Bool) (at word : ℕ) (v u : Shown) : Type 0 where
  pub saw : Saw
  pub is : u.hand.saw ≡ Some saw
  pub word_is : saw.word ≡ word
  pub since : v.steps < saw.step
  pub by_now : saw.step ≤ u.steps
  pub found : FindsAtStep saw.step at word v u
  pub shut : unavailable kind reads word

-- it didn't wait, and holds nothing, nor did it at any step: it took no wait lock, was in no list, and was no queue's head
pub record Misses (kind : Kind) (reads : Bool) (at word : ℕ) (v u : Shown) : Type 0 where
  pub keeps : Keeps v u
  pub consumed : u.hand.consumed ≡ v.hand.consumed
  pub out : u.hand.held ≡ No
  pub takes : u.hand.takes ≡ v.hand.takes
  pub sees : Sees kind reads at word v u
  pub once : u.hand.misses ≡ v.hand.misses + 1
  pub freed : u.hand.freed ≡ v.hand.freed
  pub entries : u.spin.entries ≡ v.spin.entries
  pub fronts : u.fronts ≡ v.fronts
  pub line : u.line ≡ v.line
  pub swaps : u.swaps ≡ v.swaps
  pub tally : u.tally ≡ v.tally

-- steps of this call found these numbers of signals sent to its task, and consumed by it; more were sent
pub record SawPending (why : Interrupted) (v u : Shown) : Type 0 where
  pub sent : (t : ℕ) → v.hand.task ≡ Some t → FindsSince (sent_place t) why.sent v u
  pub taken : (t : ℕ) → v.hand.task ≡ Some t → FindsSince (consumed_place t) why.taken v u
  pub pending : why.taken < why.sent

-- it had appended itself to the list, once, and waited until it saw that a signal was pending; it has consumed one, and holds nothing, nor did it at any step
pub record Interrupts (kind : Kind) (reads : Bool) (at : ℕ) (why : Interrupted) (v u : Shown) : Type 0 where
  pub keeps : Keeps v u
  pub heard : SawPending why v u
  pub consumed : u.hand.consumed ≡ v.hand.consumed + 1
  pub out : u.hand.held ≡ No
  pub takes : u.hand.takes ≡ v.hand.takes
  pub word : ℕ
  pub sees : Sees kind reads at word v u
  pub freed : u.hand.freed ≡ v.hand.freed
  pub waited : u.line.appends ≡ v.line.appends + 1

-- what a call that ends or downgrades a hold leaves: it has not come to hold anew, so that it held at each step up to the one that ended the hold; where its word has waiters to be woken it has gone
-- through the wait lock
pub record Frees (wakes : ℕ → Type 0) (v u : Shown) : Type 0 where
  pub keeps : Keeps v u
  pub consumed : u.hand.consumed ≡ v.hand.consumed
  pub quiet : u.hand.writes ≡ false
  pub saw : u.hand.saw ≡ v.hand.saw
  pub misses : u.hand.misses ≡ v.hand.misses
  pub takes : u.hand.takes ≡ v.hand.takes
  pub fronts : u.fronts ≡ v.fronts
  pub line : u.line ≡ v.line
  pub swaps : u.swaps ≡ v.swaps
  pub tally : u.tally ≡ v.tally
  pub woken : wakes u.hand.freed → v.spin.entries < u.spin.entries

-- it holds nothing
abbrev pub Releases : (ℕ → Type 0) → Shown → Shown → Type 0
Releases wakes v u = Frees wakes v u × (u.hand.held ≡ No)

-- it holds as after a shared call, and held at each step, as it holds now and has not come to hold anew; what it knows of the object is as before
abbrev pub Downgrades : Kind → Shown → Shown → Type 0
Downgrades kind v u = Frees (wakes_down kind) v u × (u.hand.held ≡ shares kind) × (u.hand.known ≡ v.hand.known) × (u.hand.log ≡ v.hand.log)

-- how it got the lock: by its first try, by a later one before it was in the list, or after it had appended itself once
abbrev pub Got : How → Shown → Shown → Type 0
Got Fast v u = (u.hand.misses ≡ v.hand.misses) × (u.spin.entries ≡ v.spin.entries) × (u.fronts ≡ v.fronts) × (u.line ≡ v.line) × (u.swaps ≡ v.swaps) × (u.tally ≡ v.tally)
Got Spun v u = (v.hand.misses < u.hand.misses) × (u.line ≡ v.line)
Got Slept v u = u.line.appends ≡ v.line.appends + 1

-- a shared call's one try, which missed, saw the lock's word, which stands at this place and lets such a call in, and the step behind it left the pass holding
pub record IsLetIn (kind : Kind) (at : ℕ) (v u : Shown) : Type 0 where
  pub once : u.hand.misses ≡ v.hand.misses + 1
  pub saw : Saw
  pub is : u.hand.saw ≡ Some saw
  pub since : v.steps < saw.step
  pub by_now : saw.step ≤ u.steps
  pub found : FindsAtStep saw.step at saw.word v u
  pub opens : lets_in kind saw.word
  pub holds : LeavesHold (saw.step + 1) (shares kind) v u

-- a call that waits keeps its place in line: after a failed try it goes through the wait lock or the spin queue. `shared`: it may have been let in, by the lock's word, which stands at this place.
pub record KeepsPlace (kind : Kind) (shared : Bool) (at : ℕ) (v u : Shown) : Type 0 where
  pub queues : v.hand.misses < u.hand.misses → u.fronts ≡ v.fronts → (v.spin.entries < u.spin.entries) ⊎ ((shared ≡ true) × IsLetIn kind at v u)
  pub few : u.fronts ≡ v.fronts → u.hand.misses ≤ v.hand.misses + tries kind

-- What a call that waits counted, by its answer: whether it stood in the list of waiters, and whether a signal interrupted it; and whether the lock's spin queue answered false. Each entry of that
-- queue ends as its head, which is the answer true, or with the answer false.
pub record TalliesLock (answer : Result How Interrupted) (v u : Shown) : Type 0 where
  pub queued : u.tally.queued ≡ raised (stood_in_list answer) v.tally.queued
  pub interrupted : u.tally.interrupted ≡ raised (was_interrupted answer) v.tally.interrupted
  pub refused : Bool
  pub entered : u.swaps + v.fronts ≡ v.swaps + u.fronts + bit refused
  pub left : u.tally.left ≡ raised refused v.tally.left

-- Before it stands in line, a call enters the lock's spin queue once at most, and counts where that answered false; nothing else is counted.
abbrev pub TalliesSpin : Shown → Shown → Type 0
TalliesSpin v u = (refused : Bool) × (u.swaps + v.fronts ≡ v.swaps + u.fronts + bit refused) × (u.tally ≡ (if refused then left v.tally else v.tally))
