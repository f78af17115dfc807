-- To which moments of an object's table and of its lock's spin queue the object's gathered pass goes back.
use Rattle.std.specs.Prelude.{◌≡◌, ℕ, ◌<◌, List, length}
use Rattle.word_bits.specs.Objects.{Obj}
use Rattle.word_bits.specs.Histories.{Plan}
use Rattle.lock_core.specs.Kinds.{Kind, unavailable}
use Rattle.lock_core.specs.Pasts.{GoesOn}
use Rattle.lock_core.specs.Records.{row}
use Rattle.lock_core.specs.Shown.{Shown, IsLatestStep}
use Rattle.mm_serve.specs.TaskServing.{IsServing}
use Rattle.mm_serve.specs.Types.{Moment}

-- A pass of the lock which has the task's number, and by whose own last step all the task's calls were recorded. It knows what the lock tells of its spin queue at each moment up to a look there.
pub record HasLookedBack {Call : Type 0} (o : Obj Call) (kind : Kind) (Sits : Type 0) (tells_queue : Plan → Shown → List Moment → Type 0) (k : Plan) (v : Shown) (spun : List Moment) (t : ℕ) : Type 0
  where
    pub own : Sits
    pub serving : IsServing o (unavailable kind) k v.hand t
    pub all : v.hand.done ≡ length (row k t)
    -- the newest moment of the table that it goes back to is that of its own last step, which left its seat this hand
    pub last : IsLatestStep v
    pub queue : tells_queue k v spun

module _ {S P : Type 0} (looked_back : S → P → ℕ → Type 0) (past spun : P → List Moment) where
  -- this pass goes back to all moments, of the object's table and of the spin queue, that such a pass with the task's number goes back to
  pub record GoesBackToTask (s : S) (t : ℕ) (p : P) : Type 0 where
    pub pass : P
    pub looked : looked_back s pass t
    pub table : GoesOn (past pass) (past p)
    pub queue : GoesOn (spun pass) (spun p)

  -- it goes back so to each task of the object's calls
  abbrev pub GoesBackToTasks : (S → Plan) → S → P → Type 0
  GoesBackToTasks calls_on s p = (t : ℕ) → t < length (calls_on s) → GoesBackToTask s t p
