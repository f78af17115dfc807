-- What a clause reads of a pass in the queue of a spin lock.
use Rattle.std.specs.Prelude.{◌≡◌, ◌≢◌, ℕ, ◌+◌, ◌*◌, ◌<◌, ◌≤◌, ◌⊎◌, length, Some, None, IsSome}
use Rattle.qspin_queue.specs.Types.{Pass, Taking, Trying, Cleared, Ready, Site}
use Rattle.lock_core.specs.Views.{SpinPart, SpinRests, SpinHolds, spin_part}
use Rattle.lock_core.specs.LockHands.{lock_hand_at, frame_at, depth_of, RestsEverywhere}
use Rattle.lock_core.specs.Spins.{node_code}
use Rattle.lock_core.specs.SiteHandles.{plan_of, view_of, hand_in, task_in, SitsAt, SaysSame, KeepsPast, IsLatest, IsDepthTold, IsNestTold}
use Rattle.qspin_word.specs.Ways.{LockGained}
use Rattle.qspin_word.specs.SpinWordHandles.{spin_in, FindsRivalSince, KeepsFlagsBeside}

-- the codes of the nodes of so many tasks are smaller
abbrev pub codes_of : ℕ → ℕ
codes_of tasks = 4 * tasks + 4

-- its node at the lock is the one that it began to use last
pub record IsTop (l : ℕ) (p : SpinPart) : Type 0 where
  pub task : ℕ
  pub index : ℕ
  pub named : p.task ≡ Some task
  pub last : index + 1 ≡ depth_of p.spin
  pub is : (frame_at l p.spin).code ≡ node_code task index

module _ {R O E C : Type 0} where
  -- the codes of the nodes of the plan's tasks are smaller
  abbrev pub codes : Site R O E C → ℕ
  codes site = codes_of (length (plan_of site))

  -- the code of its node
  abbrev pub code_in : ℕ → Pass R O E C → ℕ
  code_in l pass = (frame_at l (view_of pass).spin).code

  -- the code of its predecessor: the tail that it found
  abbrev pub found_in : ℕ → Pass R O E C → ℕ
  found_in l pass = (frame_at l (view_of pass).spin).found

  -- the code of its successor, or 0 while it hasn't seen one
  abbrev pub successor_in : ℕ → Pass R O E C → ℕ
  successor_in l pass = (frame_at l (view_of pass).spin).next

  -- this is the code of the next node of its task
  pub record IsNextNode (site : Site R O E C) (pass : Pass R O E C) (code : ℕ) : Type 0 where
    pub task : ℕ
    pub index : ℕ
    pub named : (hand_in pass).task ≡ Some task
    pub is : code ≡ node_code task index
    pub depth : index ≡ depth_of (spin_in pass)
    pub small : task < length (plan_of site)
    pub four : index < 4

  -- It took the lock as the ready head of the queue. Or it took it before it stood there, by a try with its node cleared, at one of its first so many steps. Or it took it by a try that it repeated,
  -- since all nodes of its task were in use.
  abbrev pub TakesInTurn : (l few : ℕ) → Pass R O E C → Pass R O E C → Type 0
  TakesInTurn l few old new = ((lock_hand_at l (spin_in new)).from ≡ Ready) ⊎ (((lock_hand_at l (spin_in new)).from ≡ Cleared) × ((lock_hand_at l (spin_in new)).took ≤ (view_of old).steps + few))
      ⊎ (((lock_hand_at l (spin_in new)).from ≡ Trying) × (4 ≤ depth_of (spin_in old)))

  -- a step of the call found a rival; where the pass took the lock by the try with its node cleared, it did so within five steps of that one
  abbrev pub QueuesBehind : (l : ℕ) (quiet : Type 0) (at : ℕ) → Pass R O E C → Pass R O E C → Type 0
  QueuesBehind l quiet at old new = (rival : FindsRivalSince l quiet at old new) × ((lock_hand_at l (spin_in new)).from ≡ Cleared → (lock_hand_at l (spin_in new)).took ≤ rival.saw.step + 5)

  -- its node at the lock is the one that it began to use last
  abbrev pub HasTop : ℕ → Pass R O E C → Type 0
  HasTop l pass = IsTop l (spin_part (view_of pass))

  -- after some steps it holds the spin lock, which it took from another point than the owner of the pending bit does; what it saw of a word is as before, if nothing else was done meanwhile
  pub record SpinTakes (l : ℕ) (quiet : Type 0) (site : Site R O E C) (old new : Pass R O E C) : Type 0 where
    pub own : SitsAt site new
    pub face : SaysSame old new
    pub goes_on : KeepsPast old new
    pub last : IsLatest new
    pub gained : LockGained l quiet (view_of old) (view_of new)
    pub saw : quiet → (spin_in new).saw ≡ (spin_in old).saw
    pub from : (lock_hand_at l (spin_in new)).from ≢ Taking
    pub flags : KeepsFlagsBeside l old new

  -- it uses a node less
  abbrev pub LeavesNode : Pass R O E C → Pass R O E C → Type 0
  LeavesNode old new = depth_of (spin_in new) + 1 ≡ depth_of (spin_in old)

  -- it uses a node more, which it notes
  pub record EntersNode (old new : Pass R O E C) : Type 0 where
    pub told : IsDepthTold new
    pub deeper : depth_of (spin_in new) ≡ depth_of (spin_in old) + 1

  -- a pass of the site with a number, which is at no point of the spin lock
  pub record IsReady (site : Site R O E C) (pass : Pass R O E C) : Type 0 where
    pub own : SitsAt site pass
    pub numbered : IsSome (task_in pass)
    pub out : SpinRests (view_of pass).spin

  -- one that holds it
  pub record IsHolder (site : Site R O E C) (pass : Pass R O E C) : Type 0 where
    pub own : SitsAt site pass
    pub numbered : IsSome (task_in pass)
    pub holds : SpinHolds (view_of pass).spin

  -- one without a number, which is at no point of the spin lock
  pub record IsIdle (site : Site R O E C) (pass : Pass R O E C) : Type 0 where
    pub own : SitsAt site pass
    pub numberless : task_in pass ≡ None
    pub out : SpinRests (view_of pass).spin

  -- a pass of the site with a number, which is at no spin lock and notes so
  pub record IsApart (site : Site R O E C) (pass : Pass R O E C) : Type 0 where
    pub own : SitsAt site pass
    pub numbered : IsSome (task_in pass)
    pub told : IsNestTold pass
    pub out : RestsEverywhere (view_of pass).spin

  -- one without a number
  pub record IsApartIdle (site : Site R O E C) (pass : Pass R O E C) : Type 0 where
    pub own : SitsAt site pass
    pub numberless : task_in pass ≡ None
    pub told : IsNestTold pass
    pub out : RestsEverywhere (view_of pass).spin
