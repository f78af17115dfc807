-- What a mutex tells of its own, beside what every lock does.
use Rattle.std.specs.Prelude.{ℕ, List}
use Rattle.word_bits.specs.Objects.{Obj}
use Rattle.word_bits.specs.Histories.{Plan}
use Rattle.lock_core.specs.Pasts.{EachMoment, Ran}
use Rattle.lock_core.specs.Shown.{Shown}
use Rattle.lock_core.specs.SpinStated.{IsSpinLockThen, IsSpinMove}
use Rattle.mutex_slow.specs.MutexHandles.{newest}
use Rattle.mutex_slow.specs.Mutexes.{standing, wait_lock_at}
use Rattle.mutex_slow.specs.MutexStated.{HasBecome, IsMutexThen, IsOutOfList}
use Rattle.mutex_slow.specs.Types.{Waiter}

-- What a pass knows that has looked back. At each moment so far the owner word stated who held, who was picked and whether tasks waited. The pass knows which tasks wait now, first to last. This list
-- and the word have come to be by the steps of a mutex alone. Its own task doesn't wait. At each moment the spin words stated who had the wait lock, and each step was one of a spin lock's.
pub record KnowsMutex {Call : Type 0} (o : Obj Call) (size : ℕ) (k : Plan) (v : Shown) : Type 0 where
  pub always : EachMoment (IsMutexThen o size k) v.past
  pub waiting : List Waiter
  pub become : HasBecome k v.past waiting
  pub out : IsOutOfList v
  pub wait_lock : EachMoment (IsSpinLockThen wait_lock_at) v.past
  pub wait_moves : Ran standing (newest k) (IsSpinMove wait_lock_at) v.past
