-- The queued spin locks in the words of a table: what is so of them between two steps, and what a step may do.
use Rattle.std.specs.Prelude.{◌≡◌, ◌≢◌, ℕ, suc, ◌+◌, ◌-◌, ◌*◌, ◌/◌, ◌%◌, ◌<◌, ◌≤◌, ◌⊎◌, Bool, true, false, List, [], ◌∷◌, ◌++◌, length, map, slice_index, slice_set, Some}
use mathlib.Core.Option.{some}
use lib.ListN.{get_elem?}
use Rattle.lock_core.specs.declared.layout.TheConstants.{SPIN_WORDS}
use Rattle.lock_core.specs.Views.{SpinPart, SpinStays, no_spin}
use Rattle.lock_core.specs.LockHands.{lock_hand_at, frame_at, point_at, depth_of, RestsAt, RestsEverywhere}
use Rattle.lock_core.specs.SpinFrames.{uses, stands, holds_of}
use Rattle.lock_core.specs.SpinQueues.{LockKept, tail_unit}
use Rattle.lock_core.specs.Types.{View, SpinHand, Frame, Saw, Point, Out, Undoing, Pending, Taking, Trying, Cleared, Head, Ready, Passing, Holding}
use Rattle.lock_core.specs.ViewParts.{Each}

-- the parts of the spin word: the locked byte, the pending bit, and the code of the tail
abbrev pub byte_in : ℕ → ℕ
byte_in word = word % 256

abbrev pub pending_in : ℕ → ℕ
pending_in word = (word / 256) % 2

abbrev pub tail_in : ℕ → ℕ
tail_in word = word / tail_unit

-- where the word of a lock stands, and the words of a node: a line for each
abbrev pub word_at : ℕ → ℕ
word_at l = 8 * l

abbrev pub next_at : ℕ → ℕ
next_at c = 8 * c + 33

abbrev pub locked_at : ℕ → ℕ
locked_at c = 8 * c + 34

abbrev pub word_in : List ℕ → ℕ → ℕ
word_in w l = slice_index w (word_at l)

abbrev pub next_in : List ℕ → ℕ → ℕ
next_in w c = slice_index w (next_at c)

abbrev pub locked_in : List ℕ → ℕ → ℕ
locked_in w c = slice_index w (locked_at c)

-- what it has to do with the first lock, and with any
abbrev pub frame_of : SpinPart → Frame
frame_of p = p.spin.frame

abbrev pub frame_on : ℕ → SpinPart → Frame
frame_on l p = frame_at l p.spin

-- the code of the node of this task and this number
abbrev pub node_code : (task index : ℕ) → ℕ
node_code t i = 4 * (t + 1) + i

-- this is one of the nodes of its task, with a number below the depth
pub record IsOwnNode (p : SpinPart) (code : ℕ) : Type 0 where
  pub task : ℕ
  pub index : ℕ
  pub named : p.task ≡ Some task
  pub four : index < 4
  pub below : index < depth_of p.spin
  pub is : code ≡ node_code task index

-- the nodes that a pass uses are those of its task with a number below its depth, each at one lock
pub record OwnNodes (p : SpinPart) : Type 0 where
  pub node : (l : ℕ) → uses (point_at l p.spin) ≡ true → IsOwnNode p (frame_at l p.spin).code
  pub apart : (l m : ℕ) → uses (point_at l p.spin) ≡ true → uses (point_at m p.spin) ≡ true → (frame_at l p.spin).code ≡ (frame_at m p.spin).code → l ≡ m

-- it is at none of the locks past so many
abbrev pub IsFew : ℕ → SpinPart → Type 0
IsFew n p = (l : ℕ) → n ≤ l → RestsAt l p.spin

-- what is so of the words of a lock, while these are the queues
abbrev pub LockIn : List ℕ → (ℕ → List ℕ) → List SpinPart → ℕ → Type 0
LockIn w queues ps l = LockKept (word_in w l) (next_in w) (locked_in w) (queues l) (map (frame_on l) ps)

-- the words of so many spin locks, and what each view has to do with them, while these are their queues
pub record SpinFacts (n : ℕ) (w : List ℕ) (queues : ℕ → List ℕ) (ps : List SpinPart) : Type 0 where
  pub wide : length w ≡ SPIN_WORDS
  pub lock : LockKept (slice_index w 0) (next_in w) (locked_in w) (queues 0) (map frame_of ps)
  pub nest : (l : ℕ) → suc l < n → LockIn w queues ps (suc l)
  pub few : Each (IsFew n) ps
  pub own : Each OwnNodes ps

abbrev pub SpinsKept : ℕ → List ℕ → List SpinPart → Type 0
SpinsKept n w ps = (queues : ℕ → List ℕ) × SpinFacts n w queues ps

-- of a table with one
abbrev pub SpinKept : List ℕ → List SpinPart → Type 0
SpinKept w ps = SpinsKept 1 w ps

-- whose node comes to stand in the queue, stands last in it and has found this tail; whose node no longer does, stood first; and no other step changes the queue, or what a node that stands in it
-- found
abbrev pub QueueMoves : Bool → Bool → (code tail found found' : ℕ) → List ℕ → List ℕ → Type 0
QueueMoves false true code tail found found' queue queue' = (queue' ≡ queue ++ code ∷ []) × (found' ≡ tail)
QueueMoves true false code tail found found' queue queue' = queue ≡ code ∷ queue'
QueueMoves true true code tail found found' queue queue' = (queue' ≡ queue) × (found' ≡ found)
QueueMoves false false code tail found found' queue queue' = queue' ≡ queue

-- where a pass may come to hold from, by the word: an exchange from 0, the owner of the pending bit or a ready head while the byte is 0
abbrev pub TakesFrom : Point → ℕ → Type 0
TakesFrom Out word = word ≡ 0
TakesFrom Trying word = word ≡ 0
TakesFrom Cleared word = word ≡ 0
TakesFrom Taking word = byte_in word ≡ 0
TakesFrom Ready word = byte_in word ≡ 0
TakesFrom Passing word = Unit {0}
TakesFrom Holding word = Unit {0}
TakesFrom _ word = ⊥

-- What a pass may come to, by the word. It comes to own the pending bit as a taker only where it saw neither tail nor bit, or to undo it only where it saw a tail and no bit. The taker goes on to take
-- the lock only where it saw the byte 0. The front comes to be ready only where it saw the byte and the bit 0.
abbrev pub ComesTo : Point → Point → ℕ → Type 0
ComesTo Pending Pending word = Unit {0}
ComesTo _ Pending word = (pending_in word ≡ 0) × (tail_in word ≡ 0)
ComesTo Undoing Undoing word = Unit {0}
ComesTo _ Undoing word = (pending_in word ≡ 0) × (tail_in word ≢ 0)
ComesTo Taking Taking word = Unit {0}
ComesTo Pending Taking word = byte_in word ≡ 0
ComesTo _ Taking word = ⊥
ComesTo Ready Ready word = Unit {0}
ComesTo Head Ready word = (byte_in word ≡ 0) × (pending_in word ≡ 0)
ComesTo _ Ready word = ⊥
ComesTo _ _ word = Unit {0}

-- how a node leaves the queue: by the exchange of the word for 1, or by the store that tells the node behind it that it is the head
abbrev pub LeavesBy : ℕ → Bool → Bool → (w queue' w' : List ℕ) → Type 0
LeavesBy l true false w queue' w' = (word_in w' l ≡ 1) ⊎ ((next : ℕ) × (get_elem? queue' 0 ≡ some next) × (locked_in w next ≢ 1) × (locked_in w' next ≡ 1))
LeavesBy l true true w queue' w' = Unit {0}
LeavesBy l false _ w queue' w' = Unit {0}

-- all other locks stay, and what the pass has to do with them
pub record OthersStay (l : ℕ) (w : List ℕ) (before : SpinPart) (queues : ℕ → List ℕ) (w' : List ℕ) (after : SpinPart) (queues' : ℕ → List ℕ) : Type 0 where
  pub words : (m : ℕ) → m ≢ l → word_in w' m ≡ word_in w m
  pub queues_stay : (m : ℕ) → m ≢ l → queues' m ≡ queues m
  pub lock_hands : (m : ℕ) → m ≢ l → lock_hand_at m after.spin ≡ lock_hand_at m before.spin

-- a step of the pass of this number at the lock of that number, from these words to those
pub record SpinStep (l id : ℕ) (w : List ℕ) (ps : List SpinPart) (queues : ℕ → List ℕ) (w' : List ℕ) (ps' : List SpinPart) (queues' : ℕ → List ℕ) : Type 0 where
  pub before : SpinPart
  pub after : SpinPart
  pub at : get_elem? ps id ≡ some before
  pub others : slice_set ps id after ≡ ps'
  pub takes : holds_of (frame_on l after) ≡ 1 → TakesFrom (point_at l before.spin) (word_in w l)
  pub comes : ComesTo (point_at l before.spin) (point_at l after.spin) (word_in w l)
  pub queues_move : QueueMoves (stands (point_at l before.spin)) (stands (point_at l after.spin)) (frame_on l before).code (tail_in (word_in w l)) (frame_on l before).found (frame_on l after).found
      (queues l) (queues' l)
  pub leaves : LeavesBy l (stands (point_at l before.spin)) (stands (point_at l after.spin)) w (queues' l) w'
  -- what it now has as seen, it saw before; or it is the word, and the pass was at no point of this lock: so a tail or a bit in it isn't its own
  pub saw : (x : Saw) → after.spin.saw ≡ Some x → (before.spin.saw ≡ Some x) ⊎ ((x.word ≡ word_in w l) × RestsAt l before.spin)
  pub stay : OthersStay l w before queues w' after queues'

-- what a step elsewhere leaves of a pass: what it knows of the locks, unless it is at no point of any and is spent
abbrev pub StaysAt : SpinPart → SpinPart → Type 0
StaysAt p p' = SpinStays p.spin p'.spin ⊎ (RestsEverywhere p.spin × (p'.spin ≡ no_spin))

-- a step elsewhere
pub record SpinLeaves (w : List ℕ) (ps : List SpinPart) (queues : ℕ → List ℕ) (w' : List ℕ) (ps' : List SpinPart) (queues' : ℕ → List ℕ) : Type 0 where
  pub words : w' ≡ w
  pub queues_stay : (l : ℕ) → queues' l ≡ queues l
  pub passes : (j : ℕ) (p : SpinPart) → get_elem? ps j ≡ some p → (p' : SpinPart) × (get_elem? ps' j ≡ some p') × StaysAt p p'

-- what a step of the pass of this number does to the words of so many spin locks
pub record SpinsMove (n id : ℕ) (w : List ℕ) (ps : List SpinPart) (w' : List ℕ) (ps' : List SpinPart) : Type 0 where
  pub queues : ℕ → List ℕ
  pub queues' : ℕ → List ℕ
  pub old : SpinFacts n w queues ps
  pub new : SpinFacts n w' queues' ps'
  pub step : SpinLeaves w ps queues w' ps' queues' ⊎ ((l : ℕ) × (l < n) × SpinStep l id w ps queues w' ps' queues')

abbrev pub SpinMoves : ℕ → List ℕ → List SpinPart → List ℕ → List SpinPart → Type 0
SpinMoves id w ps w' ps' = SpinsMove 1 id w ps w' ps'

-- it holds the first lock, or this one
abbrev pub holds_in : SpinHand → ℕ
holds_in s = holds_of s.frame

abbrev pub holds_on : ℕ → SpinHand → ℕ
holds_on l s = holds_of (frame_at l s)

-- a step that ends a hold
abbrev pub SpinFrees : ℕ → SpinHand → SpinHand → Type 0
SpinFrees l s g = (holds_on l s ≡ 1) × (holds_on l g ≡ 0)

-- how the step of this number at a lock may change the spin part of a view
pub record SpinGoes (step l : ℕ) (s g : SpinHand) : Type 0 where
  -- who takes the lock has taken one once more, at this step and from the point where it was
  pub entries : g.entries ≡ s.entries + (holds_on l g - holds_on l s)
  pub takes : holds_on l s ≡ 0 → holds_on l g ≡ 1 → ((lock_hand_at l g).took ≡ step) × ((lock_hand_at l g).from ≡ point_at l s)
  pub keeps : holds_on l g ≤ holds_on l s → ((lock_hand_at l g).took ≡ (lock_hand_at l s).took) × ((lock_hand_at l g).from ≡ (lock_hand_at l s).from)
  -- what it now has as seen, it saw before, or at this step
  pub saw : (x : Saw) → g.saw ≡ Some x → (s.saw ≡ Some x) ⊎ (x.step ≡ step)
  -- the other locks stay
  pub others : (m : ℕ) → m ≢ l → lock_hand_at m g ≡ lock_hand_at m s

module _ {E : Type 0} where
  -- a step on the spin words
  abbrev pub spun : View E → SpinHand → View E
  spun v s = record v { spin = s; steps = v.steps + 1 }
