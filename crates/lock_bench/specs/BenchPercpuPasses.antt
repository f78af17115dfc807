-- A pass of a per-CPU semaphore, outside all rounds and between two.
use Rattle.std.specs.Prelude.{◌≡◌, false, None, IsSome}
use Rattle.lock_core.specs.Views.{HoldsNothing, OwesNoSignal, SpinRests}
use Rattle.percpu_rwsem.specs.declared.pass.PercpuPass.{PercpuPass}
use Rattle.percpu_rwsem.specs.declared.site.PercpuRwSem.{PercpuRwSem}
use Rattle.percpu_rwsem.specs.PercpuHandles.{blocks_in, hand_in, task_in, view_of, SitsAt}

module _ {O C : Type 0} where
  -- it is one of the semaphore's, has no number, blocks nobody, and isn't at the spin lock
  pub record IsIdle (sem : PercpuRwSem O C) (pass : PercpuPass O C) : Type 0 where
    pub own : SitsAt sem pass
    pub numberless : task_in pass ≡ None
    pub apart : blocks_in pass ≡ false
    pub unspun : SpinRests (view_of pass).spin

  -- it has a number, and neither holds, blocks nor owes anything
  pub record IsBetween (sem : PercpuRwSem O C) (pass : PercpuPass O C) : Type 0 where
    pub own : SitsAt sem pass
    pub numbered : IsSome (task_in pass)
    pub apart : blocks_in pass ≡ false
    pub rests : HoldsNothing (view_of pass)
    pub recorded : OwesNoSignal (hand_in pass)
