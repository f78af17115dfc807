-- The queue of a spin lock, and what is so of the lock at each moment.
use Rattle.std.specs.Prelude.{◌≡◌, ◌≢◌, ℕ, suc, ◌+◌, ◌*◌, ◌≤◌, ◌⊎◌, List, [], ◌∷◌, length}
use mathlib.Core.Option.{some}
use lib.ListN.{get_elem?}
use Rattle.lock_core.specs.ViewParts.{Each}
use Rattle.lock_core.specs.Totals.{total}
use Rattle.lock_core.specs.SpinFrames.{Counts, counts, code_is, stands_as, uses_as}
use Rattle.lock_core.specs.Types.{Frame, Point, Clearing, Cleared, Linking, Waiting, Head, Ready, Passing}

-- what a node's code counts for in the word
abbrev pub tail_unit : ℕ
tail_unit = 512

-- the last of a queue, whose head stands first
abbrev pub tail_of : List ℕ → ℕ
tail_of [] = 0
tail_of (x ∷ []) = x
tail_of (x ∷ y ∷ q) = tail_of (y ∷ q)

-- x stands directly before y
abbrev pub Before : List ℕ → ℕ → ℕ → Type 0
Before q x y = (p : ℕ) × (get_elem? q p ≡ some x) × (get_elem? q (suc p) ≡ some y)

-- the word, and who may set the locked byte next
pub record Balanced (word : ℕ) (q : List ℕ) (c : Counts) : Type 0 where
  pub word_is : word ≡ c.holds + 256 * (c.undoes + c.pends + c.takes) + tail_unit * tail_of q
  pub owner : c.undoes + c.pends + c.takes ≤ 1
  pub comes : c.holds + c.takes + c.ready ≤ 1
  pub rivals : c.pends + c.takes + c.ready ≤ 1
  pub undone : c.undoes ≤ length q
  pub fronts : c.ready ≤ length q

-- whose nodes the queue has
pub record Queued (q : List ℕ) (fs : List Frame) : Type 0 where
  pub members : (c : ℕ) → total (stands_as c) fs ≡ total (code_is c) q
  pub used : (c : ℕ) → total (uses_as c) fs ≤ 1
  pub real : total (code_is 0) q ≡ 0

-- a node names the next one, or none
abbrev pub Linked : (ℕ → ℕ) → List ℕ → Type 0
Linked next q = (p x : ℕ) → get_elem? q p ≡ some x → (next x ≡ 0) ⊎ (get_elem? q (suc p) ≡ some (next x))

-- it was told that it is the head, or found no tail; and if it has seen the next node, that stands second
abbrev pub StandsAtHead : (ℕ → ℕ) → (ℕ → ℕ) → List ℕ → (code found after : ℕ) → Type 0
StandsAtHead next locked q code found after = (get_elem? q 0 ≡ some code) × ((found ≡ 0) ⊎ (locked code ≡ 1)) × ((after ≡ 0) ⊎ ((get_elem? q 1 ≡ some after) × (next code ≡ after)))

abbrev pub PointOk : (ℕ → ℕ) → (ℕ → ℕ) → List ℕ → Point → (code found after : ℕ) → Type 0
PointOk next locked q Clearing code found after = locked code ≡ 0
PointOk next locked q Cleared code found after = (locked code ≡ 0) × (next code ≡ 0)
PointOk next locked q Linking code found after = Before q found code × (next found ≡ 0) × (locked code ≡ 0)
PointOk next locked q Waiting code found after = (Before q found code × (locked code ≡ 0) × (next found ≡ code)) ⊎ ((get_elem? q 0 ≡ some code) × (locked code ≡ 1))
PointOk next locked q Head code found after = StandsAtHead next locked q code found after
PointOk next locked q Ready code found after = StandsAtHead next locked q code found after
PointOk next locked q Passing code found after = StandsAtHead next locked q code found after
PointOk next locked q _ code found after = Unit {0}

abbrev pub FrameOk : (ℕ → ℕ) → (ℕ → ℕ) → List ℕ → Frame → Type 0
FrameOk next locked q f = PointOk next locked q f.point f.code f.found f.next

pub record LockKept (word : ℕ) (next locked : ℕ → ℕ) (q : List ℕ) (fs : List Frame) : Type 0 where
  pub balanced : Balanced word q (counts fs)
  pub queued : Queued q fs
  pub linked : Linked next q
  pub each : Each (FrameOk next locked q) fs

-- one of the words is stored
pub record Put (w w' : ℕ → ℕ) (x n : ℕ) : Type 0 where
  pub here : w' x ≡ n
  pub other : (y : ℕ) → y ≢ x → w' y ≡ w y
