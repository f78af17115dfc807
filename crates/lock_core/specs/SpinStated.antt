-- What a spin lock's words state of the passes at each moment, and what each step does.
use Rattle.std.specs.Prelude.{◌≡◌, ◌≢◌, ℕ, suc, ◌+◌, ◌*◌, ◌==◌, ◌<◌, ◌≤◌, ◌⊎◌, List, [], ◌∷◌, map, reverse, true, Some}
use mathlib.Core.Option.{some}
use lib.ListN.{get_elem?}
use Rattle.word_bits.specs.SpinWord.{IsSpin, spin_word}
use Rattle.lock_core.specs.declared.layout.TheConstants.{SPIN_WORDS}
use Rattle.lock_core.specs.Layout.{part}
use Rattle.lock_core.specs.Totals.{total}
use Rattle.lock_core.specs.SpinFrames.{when, code_is, stands, uses, stands_as, owns_at, holds_of, takes_of, ready_of, pends_of, undoes_of, is_head}
use Rattle.lock_core.specs.SpinQueues.{tail_unit, Before}
use Rattle.lock_core.specs.Views.{SpinPart, spin_part}
use Rattle.lock_core.specs.LockHands.{frame_at, point_at, depth_of, RestsAt}
use Rattle.lock_core.specs.Spins.{byte_in, pending_in, tail_in, word_in, next_in, locked_in, frame_on, node_code, OwnNodes, TakesFrom, ComesTo, LeavesBy, SpinGoes, SpinLeaves, SpinStep}
use Rattle.lock_core.specs.Pasts.{Instant}
use Rattle.lock_core.specs.Types.{Spin, Hand, Frame, SpinHand, View, Moment, Linking}

-- it owns the pending bit
abbrev pub owns_of : Frame → ℕ
owns_of f = owns_at f.point

-- the tail that the node of this code found when it entered, while it stands in the queue
abbrev pub found_at : ℕ → Frame → ℕ
found_at c f = when (stands f.point) (when (f.code == c) f.found)

abbrev pub found_by : List Frame → ℕ → ℕ
found_by fs c = total (found_at c) fs

-- The walk from the code c by the tails that were found, to the first node that found none or was told that it is the head
abbrev pub Walks : (ℕ → ℕ) → (ℕ → ℕ) → ℕ → List ℕ → Type 0
Walks found locked c [] = c ≡ 0
Walks found locked c (x ∷ xs) = (c ≡ x) × (x ≢ 0) × (((xs ≡ []) × ((found x ≡ 0) ⊎ (locked x ≡ 1))) ⊎ ((found x ≢ 0) × (locked x ≢ 1) × Walks found locked (found x) xs))

-- it owes the link from x to y: it has exchanged the tail for the code y of its own node, which found x, and hasn't told x its code yet
abbrev pub OwesLink : ℕ → ℕ → Frame → Type 0
OwesLink x y f = (f.point ≡ Linking) × (f.found ≡ x) × (f.code ≡ y)

-- the word, the `next` and `locked` of the nodes, and the passes, while this is the queue, its head first
pub record IsSpinLock (word : ℕ) (next locked : ℕ → ℕ) (queue : List ℕ) (fs : List Frame) : Type 0 where
  -- the word has a locked byte, a pending bit and a tail, and nothing else
  pub whole : word ≡ byte_in word + 256 * pending_in word + tail_unit * tail_in word
  -- the byte is 1 where one pass holds, and 0 where none does
  pub byte : (byte_in word ≡ total holds_of fs) × (total holds_of fs ≤ 1)
  -- the bit is set where one pass owns it, to take the lock or to undo it; there is a tail while one is to undo it
  pub pending : (pending_in word ≡ total owns_of fs) × (total owns_of fs ≤ 1)
  pub undone : 1 ≤ total undoes_of fs → tail_in word ≢ 0
  -- the queue has the nodes that stand in it, each once
  pub members : (c : ℕ) → total (stands_as c) fs ≡ total (code_is c) queue
  pub once : (c : ℕ) → total (code_is c) queue ≤ 1
  -- it is the walk from the tail, read the other way round, and no other list is
  pub walk : Walks (found_by fs) locked (tail_in word) (reverse queue)
  pub only : (other : List ℕ) → Walks (found_by fs) locked (tail_in word) (reverse other) → other ≡ queue
  pub empty : (queue ≡ [] → tail_in word ≡ 0) × (tail_in word ≡ 0 → queue ≡ [])
  -- a node names its successor, or none, and none but the head was told that it is the head
  pub linked : (p x : ℕ) → get_elem? queue p ≡ some x → (next x ≡ 0) ⊎ (get_elem? queue (suc p) ≡ some (next x))
  -- a link that is missing is owed by exactly one pass, and each pass that has exchanged the tail and not linked yet owes one that is missing
  pub owed : (x y : ℕ) → Before queue x y → next x ≡ 0 → (j : ℕ) × (f : Frame) × (get_elem? fs j ≡ some f) × OwesLink x y f × ((i : ℕ) (g : Frame) → get_elem? fs i ≡ some g → OwesLink x y g → i ≡ j)
  pub owes : (j : ℕ) (f : Frame) → get_elem? fs j ≡ some f → f.point ≡ Linking → (next f.found ≡ 0) × Before queue f.found f.code
  pub told : (p x : ℕ) → get_elem? queue p ≡ some x → locked x ≡ 1 → p ≡ 0
  -- the first found no tail, or was told that it is the head
  pub first : (x : ℕ) → get_elem? queue 0 ≡ some x → (found_by fs x ≡ 0) ⊎ (locked x ≡ 1)
  -- a pass that is the head has the first node
  pub heads : (j : ℕ) (f : Frame) → get_elem? fs j ≡ some f → is_head f.point ≡ true → get_elem? queue 0 ≡ some f.code
  -- a head that has seen the byte and the bit 0 has no other before it: nobody holds, and nobody owns the bit to take the lock
  pub ready : 1 ≤ total ready_of fs → (total ready_of fs ≡ 1) × (total holds_of fs ≡ 0) × (total pends_of fs + total takes_of fs ≡ 0)

-- the words of the lock of this number say so of these passes
abbrev pub SpinWordsSay : ℕ → List ℕ → List ℕ → List Frame → Type 0
SpinWordsSay l w queue fs = IsSpinLock (word_in w l) (next_in w) (locked_in w) queue fs

-- the word of a spin lock
pub record IsSpinWord (word : ℕ) : Type 0 where
  pub spin : Spin
  pub ranged : IsSpin spin
  pub is : spin_word spin ≡ word

-- the nodes that a pass uses are those of its task, with numbers below the pass's depth, each at one lock
abbrev pub UsesOwnNodes : Hand → SpinHand → Type 0
UsesOwnNodes h s = OwnNodes (record { task = h.task; spin = s })

-- it uses the node of its task of each number below its depth
abbrev pub UsesEachBelow : Hand → SpinHand → Type 0
UsesEachBelow h s = (i : ℕ) → i < depth_of s → (t : ℕ) × (l : ℕ) × (h.task ≡ Some t) × (uses (point_at l s) ≡ true) × ((frame_at l s).code ≡ node_code t i)

-- so it was at this moment, in a table of so many spin locks whose first word stands at this place
pub record AreSpinLocksThen (n first : ℕ) (m : Moment) : Type 0 where
  pub queues : ℕ → List ℕ
  pub says : (l : ℕ) → l < n → SpinWordsSay l (part first SPIN_WORDS m.words) (queues l) (map (frame_at l) m.spins)
  pub packed : (l : ℕ) → l < n → IsSpinWord (word_in (part first SPIN_WORDS m.words) l)
  pub nodes : (j : ℕ) (h : Hand) (s : SpinHand) → get_elem? m.hands j ≡ some h → get_elem? m.spins j ≡ some s → UsesOwnNodes h s
  pub filled : (j : ℕ) (h : Hand) (s : SpinHand) → get_elem? m.hands j ≡ some h → get_elem? m.spins j ≡ some s → UsesEachBelow h s
  -- no two passes have one task's number
  pub numbers : (i j t : ℕ) (h g : Hand) → get_elem? m.hands i ≡ some h → get_elem? m.hands j ≡ some g → h.task ≡ Some t → g.task ≡ Some t → i ≡ j
  -- no pass has to do with a lock past these
  pub few : (j : ℕ) (s : SpinHand) → get_elem? m.spins j ≡ some s → (l : ℕ) → n ≤ l → RestsAt l s
  -- no node stands in two queues
  pub apart : (l k c p q : ℕ) → l < n → k < n → get_elem? (queues l) p ≡ some c → get_elem? (queues k) q ≡ some c → l ≡ k

-- of one
abbrev pub IsSpinLockThen : ℕ → Moment → Type 0
IsSpinLockThen first m = AreSpinLocksThen 1 first m

-- What one step of the pass of this number does to so many spin locks
pub record IsSpinStep (n id : ℕ) (w : List ℕ) (ps : List SpinPart) (w' : List ℕ) (ps' : List SpinPart) : Type 0 where
  pub queues : ℕ → List ℕ
  pub queues' : ℕ → List ℕ
  pub before : (l : ℕ) → l < n → SpinWordsSay l w (queues l) (map (frame_on l) ps)
  pub after : (l : ℕ) → l < n → SpinWordsSay l w' (queues' l) (map (frame_on l) ps')
  -- it leaves the spin words and the queues, and where each pass is with the locks; or it is one of a pass at one of the locks, which leaves all others, and all other passes, where they are
  pub step : SpinLeaves w ps queues w' ps' queues' ⊎ ((l : ℕ) × (l < n) × SpinStep l id w ps queues w' ps' queues')
  -- the locked byte is set by an exchange from 0, by the owner of the pending bit while the byte is 0 or by a ready head, and cleared by the holder
  pub takes : (l : ℕ) → l < n → byte_in (word_in w l) ≡ 0 → byte_in (word_in w' l) ≡ 1 → (p : SpinPart) × (get_elem? ps id ≡ some p) × TakesFrom (point_at l p.spin) (word_in w l)
  pub frees : (l : ℕ) → l < n → byte_in (word_in w l) ≡ 1 → byte_in (word_in w' l) ≡ 0 → (p : SpinPart) × (get_elem? ps id ≡ some p) × (holds_of (frame_on l p) ≡ 1)
  -- the pending bit is set by a pass that then owns it, and cleared by its owner
  pub sets : (l : ℕ) → l < n → pending_in (word_in w l) ≡ 0 → pending_in (word_in w' l) ≡ 1 → (p : SpinPart) × (get_elem? ps' id ≡ some p) × (owns_of (frame_on l p) ≡ 1)
  pub clears : (l : ℕ) → l < n → pending_in (word_in w l) ≡ 1 → pending_in (word_in w' l) ≡ 0 → (p : SpinPart) × (get_elem? ps id ≡ some p) × (owns_of (frame_on l p) ≡ 1)
  -- Each pass comes to own the bit as a taker only if it saw neither tail nor bit, or to undo it only if it saw a tail, and from the one to the other by no step. It comes to be a ready head only if
  -- it saw the byte and the bit 0.
  pub comes : (l : ℕ) → l < n → (j : ℕ) (p p' : SpinPart) → get_elem? ps j ≡ some p → get_elem? ps' j ≡ some p' → ComesTo (point_at l p.spin) (point_at l p'.spin) (word_in w l)
  -- and its node leaves the queue by the exchange of the word for 1, or by the store that tells the node behind it that it is the head
  pub leaves : (l : ℕ) → l < n → (j : ℕ) (p p' : SpinPart) → get_elem? ps j ≡ some p → get_elem? ps' j ≡ some p'
      → LeavesBy l (stands (point_at l p.spin)) (stands (point_at l p'.spin)) w (queues' l) w'

-- the pass of this number made one step more, and what it counts of a lock, it counted at this step, by where it was and came to
abbrev pub CountsSpin : {E : Type 0} → ℕ → List (View E) → List (View E) → Type 0
CountsSpin {E} id vs us = (v u : View E) × (get_elem? vs id ≡ some v) × (get_elem? us id ≡ some u) × (u.steps ≡ v.steps + 1) × ((l : ℕ) × SpinGoes (v.steps + 1) l v.spin u.spin)

-- one of the table's moments came of the other by such a step, which its pass counted
abbrev pub IsSpinLocksMove : {E : Type 0} → ℕ → ℕ → Instant E → Instant E → Type 0
IsSpinLocksMove n first x y = (id : ℕ) × IsSpinStep n id (part first SPIN_WORDS x.words) (map spin_part x.views) (part first SPIN_WORDS y.words) (map spin_part y.views) × CountsSpin id x.views y.views

-- of one
abbrev pub IsSpinMove : {E : Type 0} → ℕ → Instant E → Instant E → Type 0
IsSpinMove first x y = IsSpinLocksMove 1 first x y
