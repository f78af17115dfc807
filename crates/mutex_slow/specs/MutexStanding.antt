-- How a pass stands between two calls of its task.
use Rattle.std.specs.Prelude.{◌≡◌, false, IsSome}
use Rattle.mutex_slow.specs.declared.calls.Mutex.{Mutex}
use Rattle.mutex_slow.specs.declared.calls.MutexPass.{MutexPass}
use Rattle.mutex_slow.specs.MutexHandles.{hand_in, SitsAt}
use Rattle.mutex_slow.specs.Types.{No, Alone}

module _ {O C : Type 0} where
  -- it has a task's number, and holds nothing
  pub record IsReady (mutex : Mutex O C) (pass : MutexPass O C) : Type 0 where
    pub own : SitsAt mutex pass
    pub numbered : IsSome (hand_in pass).task
    pub out : (hand_in pass).held ≡ No

  -- it holds, and each of its writes is committed
  pub record IsHolder (mutex : Mutex O C) (pass : MutexPass O C) : Type 0 where
    pub own : SitsAt mutex pass
    pub held : (hand_in pass).held ≡ Alone
    pub quiet : (hand_in pass).writes ≡ false
