-- What a try, and a way to a lock, leave of a view.
use Rattle.std.specs.Prelude.{◌≡◌, ◌≢◌, ℕ, ◌+◌, ◌<◌, ◌≤◌, ◌⊎◌, List, Option, Some}
use mathlib.Core.Option.{some}
use lib.ListN.{get_elem?}
use Rattle.lock_core.specs.Views.{SpinHolds}
use Rattle.lock_core.specs.LockHands.{lock_hand_at, point_at, RestsAt, HoldsAt, depth_of}
use Rattle.lock_core.specs.Pasts.{GoesOn, FoundAt, IsStepBy, FoundAtStep}
use Rattle.qspin_word.specs.SpinWordHands.{at_point, took_at, saw_word}
use Rattle.qspin_word.specs.Types.{View, LockHand, Saw, SpinHand, Point, Out, Undoing, Pending, Holding, Moment}

-- what a pass has to do with a lock, at another point
abbrev pub lock_hand_to : Point → LockHand → LockHand
lock_hand_to p b = record b { frame = at_point b.frame p }

-- at one lock: the pass is at the same point; where it holds the lock or waits for it, all is as before, and it took it no other time
pub record AreAlike (b c : LockHand) : Type 0 where
  pub point : c.frame.point ≡ b.frame.point
  pub stays : b.frame.point ≢ Out → c ≡ b

-- This step of the pass which has the task's number was made since its past was the old one. It found neither tail nor pending bit in the word at this place. It left the pass as the owner of the bit,
-- which waits for the locked byte to be 0.
pub record PendedAtStep (l : ℕ) (task : Option ℕ) (step at : ℕ) (old new : List Moment) : Type 0 where
  pub past : List Moment
  pub by : IsStepBy task step past
  pub spin : SpinHand
  pub is : get_elem? by.now.spins by.seat ≡ some spin
  pub owns : point_at l spin ≡ Pending
  pub word : ℕ
  pub found : FoundAt at word past
  pub unset : word < 256
  pub after : GoesOn old past
  pub goes_on : GoesOn past new

-- this step of the pass which has the task's number found the word at this place; behind it the pass has that word as seen, and is at no point of the lock or is to clear its pending bit
pub record SawAtStep (l : ℕ) (task : Option ℕ) (saw : Saw) (at : ℕ) (old new : List Moment) : Type 0 where
  pub found : FoundAtStep task saw.step at saw.word old new
  pub spin : SpinHand
  pub is : get_elem? found.by.now.spins found.by.seat ≡ some spin
  pub kept : spin.saw ≡ Some saw
  pub out : (point_at l spin ≡ Out) ⊎ (point_at l spin ≡ Undoing)

module _ {E : Type 0} where
  -- a load that found the lock free, and the exchange that took it
  abbrev pub LockTaken : ℕ → View E → View E → Type 0
  LockTaken l v u = u ≡ record v { spin = took_at l v.spin (v.steps + 2) Holding; steps = v.steps + 2 }

  abbrev pub SpinTaken : View E → View E → Type 0
  SpinTaken v u = LockTaken 0 v u

  -- a try that made so many steps, the last of which saw this word
  abbrev pub SpinMissed : View E → ℕ → View E → Type 0
  SpinMissed v word u = (word ≢ 0) × ((u.steps ≡ v.steps + 1) ⊎ (u.steps ≡ v.steps + 2)) × (u ≡ record v { spin = saw_word v.spin word u.steps; steps = u.steps })

  -- what a call leaves of a view that is done while another call of the pass waits for a lock: the pass holds the locks and uses the nodes that it held and used
  pub record HitLeaves (v u : View E) : Type 0 where
    pub hand : u.hand ≡ v.hand
    pub fronts : u.fronts ≡ v.fronts
    pub ext : u.ext ≡ v.ext
    pub alike : (l : ℕ) → AreAlike (lock_hand_at l v.spin) (lock_hand_at l u.spin)
    pub depth : depth_of u.spin ≡ depth_of v.spin
    pub entries : v.spin.entries ≤ u.spin.entries
    pub later : v.steps ≤ u.steps

  -- after some steps it holds this lock, and the others as before; a quiet call took no other meanwhile
  pub record LockGained (l : ℕ) (quiet : Type 0) (v u : View E) : Type 0 where
    pub hand : u.hand ≡ v.hand
    pub fronts : u.fronts ≡ v.fronts
    pub ext : u.ext ≡ v.ext
    pub holds : HoldsAt l u.spin
    pub others : (m : ℕ) → m ≢ l → AreAlike (lock_hand_at m v.spin) (lock_hand_at m u.spin)
    pub more : v.spin.entries < u.spin.entries
    pub counted : quiet → u.spin.entries ≡ v.spin.entries + 1
    pub took : (v.steps < (lock_hand_at l u.spin).took) × ((lock_hand_at l u.spin).took ≤ u.steps)

  -- after some steps it holds the first lock, taken once more; all but that is as before
  pub record SpinGained (v u : View E) : Type 0 where
    pub hand : u.hand ≡ v.hand
    pub fronts : u.fronts ≡ v.fronts
    pub ext : u.ext ≡ v.ext
    pub holds : SpinHolds u.spin
    pub counted : u.spin.entries ≡ v.spin.entries + 1
    pub took : (v.steps < u.spin.took) × (u.spin.took ≤ u.steps)

  -- a step since found a tail or a pending bit in the lock's word, at this place; the pass still has that word as seen, if nothing else was done meanwhile
  pub record RivalSince (l : ℕ) (quiet : Type 0) (at : ℕ) (v : View E) (old : List Moment) (u : View E) (new : List Moment) : Type 0 where
    pub saw : Saw
    pub rival : 256 ≤ saw.word
    pub since : v.steps < saw.step
    pub by_now : saw.step ≤ u.steps
    pub found : SawAtStep l v.hand.task saw at old new
    pub still : quiet → u.spin.saw ≡ Some saw

  -- it has nothing to do with the lock; all but what it saw is as before
  pub record LockRefused (l : ℕ) (v u : View E) : Type 0 where
    pub hand : u.hand ≡ v.hand
    pub fronts : u.fronts ≡ v.fronts
    pub ext : u.ext ≡ v.ext
    pub out : RestsAt l u.spin
    pub others : (m : ℕ) → m ≢ l → lock_hand_at m u.spin ≡ lock_hand_at m v.spin
    pub depth : depth_of u.spin ≡ depth_of v.spin
    pub counted : u.spin.entries ≡ v.spin.entries
    pub later : v.steps < u.steps
