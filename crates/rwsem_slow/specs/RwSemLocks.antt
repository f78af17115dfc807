-- What a semaphore tells of its own, beside what every lock does.
use Rattle.std.specs.Prelude.{ℕ, List}
use Rattle.word_bits.specs.Objects.{Obj}
use Rattle.word_bits.specs.Histories.{Plan}
use Rattle.lock_core.specs.Pasts.{EachMoment, Ran}
use Rattle.lock_core.specs.Shown.{Shown}
use Rattle.lock_core.specs.SpinStated.{IsSpinLockThen, IsSpinMove}
use Rattle.rwsem_slow.specs.RwSemHandles.{newest}
use Rattle.rwsem_slow.specs.RwSems.{standing, wait_lock_at}
use Rattle.rwsem_slow.specs.RwSemStated.{HasBecome, IsOutOfLine, IsRwSemThen}
use Rattle.rwsem_slow.specs.Types.{Waiter}
use Rattle.rwsem_wake.specs.SemParts.{SemPart}

-- What a pass knows that has looked back. At each moment so far the count stated whether a task wrote, which tasks read, whose biases were in it, and whether tasks waited. A handoff was asked for
-- where the first waiter was marked. The pass knows which tasks wait now, first to last, and as what, and how each pass stands. This list, the marks, the grant words and the count have come to be by
-- the steps of a semaphore alone. The own task waits for nothing and has no bias in the count. The pass knows who had the wait lock at each moment, who owned its pending bit and who stood in its
-- queue. Each step was one of a spin lock's.
pub record KnowsRwSem {Call : Type 0} (o : Obj Call) (size : ℕ) (k : Plan) (v : Shown) : Type 0 where
  pub always : EachMoment (IsRwSemThen o size k) v.past
  pub waiting : List Waiter
  pub parts : List SemPart
  pub become : HasBecome k v.past waiting parts
  pub out : IsOutOfLine v
  pub wait_lock : EachMoment (IsSpinLockThen wait_lock_at) v.past
  pub wait_moves : Ran standing (newest k) (IsSpinMove wait_lock_at) v.past
