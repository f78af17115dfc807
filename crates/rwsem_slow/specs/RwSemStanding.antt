-- How a pass stands between two calls of its task.
use Rattle.std.specs.Prelude.{◌≡◌, IsSome}
use Rattle.rwsem_slow.specs.declared.calls.RwSem.{RwSem}
use Rattle.rwsem_slow.specs.declared.calls.RwPass.{RwPass}
use Rattle.rwsem_slow.specs.RwSemHandles.{hand_in, SitsAt}
use Rattle.rwsem_slow.specs.Types.{No}

module _ {O C : Type 0} where
  -- it has a task's number, and holds nothing
  pub record IsReady (sem : RwSem O C) (pass : RwPass O C) : Type 0 where
    pub own : SitsAt sem pass
    pub numbered : IsSome (hand_in pass).task
    pub out : (hand_in pass).held ≡ No
