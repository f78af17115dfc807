-- A pass of a table with a sequence word between two calls of its task, and between two tasks.
use Rattle.std.specs.Prelude.{◌≡◌, None, IsSome}
use Rattle.lock_core.specs.Views.{HoldsNothing, OwesNoSignal}
use Rattle.seq_fault.specs.declared.site.SeqPass.{SeqPass}
use Rattle.seq_fault.specs.declared.site.SeqSite.{SeqSite}
use Rattle.seq_fault.specs.SeqHandles.{SitsAt, hand_in, task_in, view_of}

module _ {O C : Type 0} where
  -- it has a task's number, holds nothing, and has recorded all its signals
  pub record IsReady (site : SeqSite O C) (pass : SeqPass O C) : Type 0 where
    pub own : SitsAt site pass
    pub numbered : IsSome (task_in pass)
    pub rests : HoldsNothing (view_of pass)
    pub recorded : OwesNoSignal (hand_in pass)

  -- the same, without a number
  pub record IsIdle (site : SeqSite O C) (pass : SeqPass O C) : Type 0 where
    pub own : SitsAt site pass
    pub numberless : task_in pass ≡ None
    pub rests : HoldsNothing (view_of pass)
    pub recorded : OwesNoSignal (hand_in pass)
