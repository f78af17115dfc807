-- A pass of a table with a sequence word whose task makes faults, outside all of them and between two.
use Rattle.std.specs.Prelude.{◌≡◌, ℕ, Some, None}
use Rattle.lock_core.specs.Views.{HoldsNothing, OwesNoSignal, SpinRests}
use Rattle.seq_fault.specs.declared.site.SeqPass.{SeqPass}
use Rattle.seq_fault.specs.declared.site.SeqSite.{SeqSite}
use Rattle.seq_fault.specs.SeqHandles.{done_in, hand_in, task_in, view_of, SitsAt}

module _ {O C : Type 0} where
  -- it is one of the table's, has no number, and isn't at the spin lock
  pub record IsIdle (site : SeqSite O C) (pass : SeqPass O C) : Type 0 where
    pub own : SitsAt site pass
    pub numberless : task_in pass ≡ None
    pub unspun : SpinRests (view_of pass).spin

  -- it has the number of this task, whose next call is this one, and neither holds nor owes anything
  pub record IsAtCall (site : SeqSite O C) (task call : ℕ) (pass : SeqPass O C) : Type 0 where
    pub own : SitsAt site pass
    pub numbered : task_in pass ≡ Some task
    pub rests : HoldsNothing (view_of pass)
    pub recorded : OwesNoSignal (hand_in pass)
    pub next : done_in pass ≡ call
