-- Where a pass stands that queues on a semaphore.
use Rattle.std.specs.Prelude.{◌≡◌, ℕ, ◌+◌, ◌<◌, ◌≤◌, ◌⊎◌, Bool, true, false, List, []}
use Rattle.word_bits.specs.Objects.{Obj}
use Rattle.word_bits.specs.Histories.{Plan}
use Rattle.lock_core.specs.Holding.{Learns}
use Rattle.lock_core.specs.Signals.{OnlyHeard}
use Rattle.lock_core.specs.Views.{took}
use Rattle.rwsem_count.specs.CountWordSteps.{HasHandoff, IsLocked}
use Rattle.rwsem_wake.specs.SemParts.{apart_hand}
use Rattle.wake_duty.specs.DutyWakes.{waits}
use Rattle.wake_duty.specs.WakeSteps.{HasTried}
use Rattle.rwsem_wake.specs.Duties.{is_left}
use Rattle.rwsem_wake.specs.RwSemViews.{V, IsDone}
use Rattle.rwsem_slow.specs.RwSems.{after_swap, wait_state_of}
use Rattle.rwsem_slow.specs.Types.{Entry, How, Fast, Spun, Slept, Shared, Alone, Transit, SemHand, Took, Summing, Wait, Writes, Awake, SemWake}
use Rattle.rwsem_wake.specs.Removals.{KnowsList}

-- its task waits so, has no bias in the count, and is about nothing
abbrev pub waiting : Wait → SemHand
waiting wait = record apart_hand { wait = wait }

-- its task waits in the list, and it has no wake to do
pub record IsListed (b : SemWake) : Type 0 where
  pub clear : b.owing ≡ false
  pub none : b.chosen ≡ []
  pub waits : waits b.wait_state ≡ 1

-- it stands in the list so, and is between no two steps that belong together; it has no wake to do
pub record IsInLine (wait : Wait) (v : V) : Type 0 where
  pub waits : v.ext.sem ≡ waiting wait
  pub still : v.ext.list.changes ≡ false
  pub listed : IsListed v.ext.wake

-- the same, but it has chosen these tasks, and is to set their wake words
pub record IsInLineToWake (wait : Wait) (tasks : List ℕ) (v : V) : Type 0 where
  pub clear : v.ext.wake.owing ≡ false
  pub chosen : v.ext.wake.chosen ≡ tasks
  pub wait_state : waits v.ext.wake.wait_state ≡ 1
  pub waits : v.ext.sem ≡ waiting wait
  pub still : v.ext.list.changes ≡ false

-- after some steps under the wait lock it knows the list, has these parts of what concerns the semaphore and of wakes, and has appended itself so often; all but that is as before
pub record Becomes (v : V) (appends : ℕ) (s : SemHand) (b : SemWake) (u : V) : Type 0 where
  pub later : v.steps ≤ u.steps
  pub list : KnowsList u
  pub is : u ≡ record v { steps = u.steps; ext = record { list = u.ext.list; sem = s; appends = v.ext.appends + appends; wake = b } }

-- it enters the list: it tries, or loads its grant word, before it sleeps
abbrev pub comes : SemWake → SemWake
comes b = record b { wait_state = Awake }

-- how it waits may have changed, and nothing else of wakes
pub record KeepsWaiting (b c : SemWake) : Type 0 where
  pub is : c ≡ record b { wait_state = c.wait_state }
  pub waits : waits c.wait_state ≡ waits b.wait_state

-- it has tried, unless it may have this count
abbrev pub HasTriedAt : ℕ → V → Type 0
HasTriedAt word v = is_left word ≡ false → HasTried wait_state_of v

-- it has only made steps
abbrev pub Stays : V → V → Type 0
Stays v u = u ≡ record v { steps = u.steps }

-- a queued writer that tries: it may have seen that nobody is marked
abbrev pub IsTrying : SemHand → Type 0
IsTrying s = (s ≡ waiting Writes) ⊎ (s ≡ record (waiting Writes) { stage = Summing })

-- it has made steps, by which it may have tried
pub record Tries (v u : V) : Type 0 where
  pub is : u ≡ record v { steps = u.steps; ext = record v.ext { wake = u.ext.wake } }
  pub keeps : KeepsWaiting v.ext.wake u.ext.wake

-- the same, and it is a queued writer about nothing
pub record Rests (v u : V) : Type 0 where
  pub is : u ≡ record v { steps = u.steps; ext = record v.ext { sem = waiting Writes; wake = u.ext.wake } }
  pub keeps : KeepsWaiting v.ext.wake u.ext.wake

-- its own wake word, which had some number, is 0: it has fallen asleep, or was woken before
abbrev pub Drowses : V → V → Type 0
Drowses v u = (n : ℕ) × (u ≡ record v { steps = v.steps + 1; ext = after_swap v.ext n })

-- a queued writer saw that nobody is marked
abbrev pub SeesUnmarked : V → V → Type 0
SeesUnmarked v u = u ≡ record v { steps = u.steps; ext = record v.ext { sem = record (waiting Writes) { stage = Summing } } }

-- What a writer knows of the first waiter's mark, before it tries a count that it saw. It has loaded the mark where its answer depends on it: where another is first, nobody holds and a handoff is
-- asked for.
abbrev pub KnowsMark : (me first count : ℕ) → (marked : Bool) → V → V → Type 0
KnowsMark me first count true v u = Tries v u × HasTried wait_state_of u
KnowsMark me first count false v u = (Stays v u × ((me ≡ first) ⊎ IsLocked count ⊎ (HasHandoff count → ⊥))) ⊎ (SeesUnmarked v u × (IsLocked count → ⊥))

-- a queued writer has taken under the wait lock, and is to leave the list, which it knows
pub record HasTaken {Call : Type 0} (o : Obj Call) (k : Plan) (v u : V) : Type 0 where
  pub known : List ℕ
  pub log : List Entry
  pub learns : Learns o k v.hand known log
  pub later : v.steps ≤ u.steps
  pub list : KnowsList u
  pub is : u ≡ record v {
    hand = took v.hand Alone known log;
    steps = u.steps;
    ext =
        record { list = u.ext.list; sem = record (waiting Writes) { stage = Took }; appends = v.ext.appends; wake = u.ext.wake };
  }
  pub waits : KeepsWaiting v.ext.wake u.ext.wake

-- what a call knows of its pass beyond the hand and what it does in line: no count of its steps falls, and it was the front of no spin queue and has not appended itself
pub record KeepsLine (v u : V) : Type 0 where
  pub later : v.steps ≤ u.steps
  pub entries : v.spin.entries ≤ u.spin.entries
  pub fronts : u.fronts ≡ v.fronts
  pub appends : u.ext.appends ≡ v.ext.appends

-- it has slept perhaps, and waits on
pub record WaitsOn (wait : Wait) (v u : V) : Type 0 where
  pub keeps : KeepsLine v u
  pub line : IsInLine wait u
  pub hand : OnlyHeard v u

-- it has only made steps, and heard of its signals
abbrev pub Listens : V → V → Type 0
Listens v u = u ≡ record v { hand = record v.hand { heard = u.hand.heard }; steps = u.steps }

-- a writer that has taken, and is to leave the list
pub record IsToQuit (v : V) : Type 0 where
  pub sem : v.ext.sem ≡ record (waiting Writes) { stage = Took }
  pub still : v.ext.list.changes ≡ false
  pub listed : IsListed v.ext.wake

-- a writer that waited has taken, and is to leave the list
pub record TookInLine {Call : Type 0} (o : Obj Call) (k : Plan) (v u : V) : Type 0 where
  pub known : List ℕ
  pub log : List Entry
  pub learns : Learns o k v.hand known log
  pub keeps : KeepsLine v u
  pub hand : u.hand ≡ took v.hand Alone known log
  pub sem : u.ext.sem ≡ record (waiting Writes) { stage = Took }
  pub still : u.ext.list.changes ≡ false
  pub waits : KeepsWaiting v.ext.wake u.ext.wake

-- a call has taken the wait lock, and counts no failed try more
pub record EntersLock (v u : V) : Type 0 where
  pub entries : v.spin.entries < u.spin.entries
  pub fronts : u.fronts ≡ v.fronts
  pub misses : u.hand.misses ≡ v.hand.misses

-- how often a call has appended itself that took by way of the wait lock
abbrev pub AppendedBy : How → V → V → Type 0
AppendedBy Fast v u = ⊥
AppendedBy Spun v u = u.ext.appends ≡ v.ext.appends
AppendedBy Slept v u = u.ext.appends ≡ v.ext.appends + 1

-- a reader whose bias is in the count, and whose try saw that it may not hold by it at once; it has no wake to do
pub record IsInTransit (v : V) : Type 0 where
  pub transit : (word : ℕ) × (v.ext.sem ≡ record apart_hand { bias = Transit word })
  pub still : v.ext.list.changes ≡ false
  pub done : IsDone v.ext.wake

-- it has looked at the list, which it knows since
pub record LooksAt (v u : V) : Type 0 where
  pub later : v.steps ≤ u.steps
  pub list : KnowsList u
  pub is : u ≡ record v { steps = u.steps; ext = record v.ext { list = u.ext.list } }

-- a reader came to hold, and waits for nothing
pub record Shares {Call : Type 0} (o : Obj Call) (k : Plan) (v u : V) : Type 0 where
  pub known : List ℕ
  pub log : List Entry
  pub learns : Learns o k v.hand known log
  pub keeps : KeepsLine v u
  pub hand : u.hand ≡ took v.hand Shared known log
  pub sem : u.ext.sem ≡ apart_hand
  pub still : u.ext.list.changes ≡ false
  pub done : IsDone u.ext.wake
  pub wakes : u.ext.wake.wakes ≡ v.ext.wake.wakes
  pub dozes : u.ext.wake.dozes ≡ v.ext.wake.dozes
