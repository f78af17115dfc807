-- What a clause reads of a pass at a spin lock.
use Rattle.std.specs.Prelude.{◌≡◌, ◌≢◌, ℕ, ◌+◌, ◌<◌, ◌≤◌, length, IsSome, true}
use Rattle.lock_core.specs.LockHands.{lock_hand_at, point_at, RestsEverywhere, depth_of}
use Rattle.lock_core.specs.Spins.{spun}
use Rattle.lock_core.specs.Pasts.{FoundAtStep}
use Rattle.lock_core.specs.SiteHandles.{plan_of, view_of, hand_in, past_of, task_in, SitsAt, SaysSame, KeepsPast, IsLatest, KeepsNest, IsDepthTold, IsNestTold}
use Rattle.lock_core.specs.Nestings.{pauses_at, SameFlags, SameFlagsBeside}
use Rattle.qspin_word.specs.Allows.{SpinAllows}
use Rattle.qspin_word.specs.Types.{Op, SpinHand, LockHand, Point, Pass, Site}
use Rattle.qspin_word.specs.Ways.{PendedAtStep, RivalSince, AreAlike, HitLeaves}

module _ {R O E C : Type 0} where
  -- what the pass knows of the spin locks
  abbrev pub spin_in : Pass R O E C → SpinHand
  spin_in pass = (view_of pass).spin

  -- how far it is with a lock
  abbrev pub point_in : ℕ → Pass R O E C → Point
  point_in l pass = point_at l (view_of pass).spin

  abbrev pub lock_hand_of : ℕ → Pass R O E C → LockHand
  lock_hand_of l pass = lock_hand_at l (view_of pass).spin

  -- the first of the steps that it made since found the word at this place 0
  abbrev pub FirstFoundFree : ℕ → Pass R O E C → Pass R O E C → Type 0
  FirstFoundFree at old new = FoundAtStep (hand_in old).task ((view_of old).steps + 1) at 0 (past_of old) (past_of new)

  -- where it made a second step, the first found the word 0
  abbrev pub TriesOnlyFree : ℕ → Pass R O E C → Pass R O E C → Type 0
  TriesOnlyFree at old new = (view_of new).steps ≡ (view_of old).steps + 2 → FirstFoundFree at old new

  -- it saw a rival, in the lock's word at this place
  abbrev pub FindsRivalSince : (l : ℕ) (quiet : Type 0) (at : ℕ) → Pass R O E C → Pass R O E C → Type 0
  FindsRivalSince l quiet at old new = RivalSince l quiet at (view_of old) (past_of old) (view_of new) (past_of new)

  -- and still has it as seen
  abbrev pub FindsRival : (l at : ℕ) → Pass R O E C → Pass R O E C → Type 0
  FindsRival l at old new = FindsRivalSince l (Unit {0}) at old new

  -- all but what it notes of the locks is the same
  pub record IsSameBut (old new : Pass R O E C) : Type 0 where
    pub seat : new.seat ≡ old.seat
    pub face : new.face ≡ old.face

  -- the step of this number, of those that it made since, made it the owner of the lock's pending bit, in the word at this place
  abbrev pub OwnsPendingAt : (l step at : ℕ) → Pass R O E C → Pass R O E C → Type 0
  OwnsPendingAt l step at old new = PendedAtStep l (hand_in old).task ((view_of old).steps + step) at (past_of old) (past_of new)

  -- whatever the words of so many spin locks of the site are, the pass may do the operation on the one at this place
  abbrev pub MaySpin : (locks l : ℕ) → Site R O E C → Pass R O E C → ℕ → Op → (ℕ → SpinHand) → (ℕ → Type 0) → Type 0
  MaySpin locks l site pass at op after tells = SpinAllows locks (length (plan_of site)) l pass.seat.id (view_of pass) at op after tells

  -- it notes the same of each lock, or of each but this one
  abbrev pub KeepsFlags : Pass R O E C → Pass R O E C → Type 0
  KeepsFlags old new = SameFlags old.nest new.nest

  abbrev pub KeepsFlagsBeside : ℕ → Pass R O E C → Pass R O E C → Type 0
  KeepsFlagsBeside l old new = SameFlagsBeside l old.nest new.nest

  -- in a table with one lock, it is at no point of any
  abbrev pub IsAtNone : (locks : ℕ) → Pass R O E C → Type 0
  IsAtNone locks pass = locks ≡ 1 → RestsEverywhere (spin_in pass)

  -- it made one step, after which it knows this of the spin locks
  pub record SpinSteps (site : Site R O E C) (old new : Pass R O E C) (s : SpinHand) : Type 0 where
    pub own : SitsAt site new
    pub face : SaysSame old new
    pub nest : KeepsNest old new
    pub goes_on : KeepsPast old new
    pub last : IsLatest new
    pub kept : view_of new ≡ spun (view_of old) s

  -- it made some steps, after which this is what it has to do with the lock of this number, and all else is as before, but for what other calls did within it that were not quiet
  pub record SpinWaits (l : ℕ) (quiet : Type 0) (site : Site R O E C) (old new : Pass R O E C) (b : LockHand) : Type 0 where
    pub own : SitsAt site new
    pub face : SaysSame old new
    pub goes_on : KeepsPast old new
    pub last : IsLatest new
    pub hand : hand_in new ≡ hand_in old
    pub fronts : (view_of new).fronts ≡ (view_of old).fronts
    pub ext : (view_of new).ext ≡ (view_of old).ext
    pub lock_hand : lock_hand_of l new ≡ b
    pub others : (m : ℕ) → m ≢ l → AreAlike (lock_hand_of m old) (lock_hand_of m new)
    pub entries : (spin_in old).entries ≤ (spin_in new).entries
    pub later : (view_of old).steps < (view_of new).steps
    pub flags : KeepsFlagsBeside l old new
    pub still : quiet → ((spin_in new).saw ≡ (spin_in old).saw) × ((spin_in new).entries ≡ (spin_in old).entries)

  -- it notes as many nodes as it uses, and all of them are those at entry
  pub record KeepsNodes (old new : Pass R O E C) : Type 0 where
    pub told : IsDepthTold new
    pub same : depth_of (spin_in new) ≡ depth_of (spin_in old)

  -- it is one of the site's, has a number, and notes how it stands with each lock
  pub record NotesItself (site : Site R O E C) (pass : Pass R O E C) : Type 0 where
    pub own : SitsAt site pass
    pub numbered : IsSome (task_in pass)
    pub told : IsNestTold pass

  -- it is such a pass, and a call of it waits: for a lock, or, having it, for its successor
  pub record IsInterruptible (site : Site R O E C) (pass : Pass R O E C) : Type 0 where
    pub notes : NotesItself site pass
    pub pauses : (l : ℕ) × (pauses_at (point_in l pass) ≡ true)

  -- another call was done while a call of the pass waits
  pub record SpinIdles (quiet : Type 0) (site : Site R O E C) (old new : Pass R O E C) : Type 0 where
    pub own : SitsAt site new
    pub face : SaysSame old new
    pub goes_on : KeepsPast old new
    pub told : IsNestTold new
    pub flags : KeepsFlags old new
    pub leaves : HitLeaves (view_of old) (view_of new)
    pub still : quiet → ((spin_in new).saw ≡ (spin_in old).saw) × ((spin_in new).entries ≡ (spin_in old).entries)

  -- it made some steps, and is one of the site's as before
  pub record SpinGoesOn (site : Site R O E C) (old new : Pass R O E C) : Type 0 where
    pub own : SitsAt site new
    pub face : SaysSame old new
    pub goes_on : KeepsPast old new
    pub last : IsLatest new
