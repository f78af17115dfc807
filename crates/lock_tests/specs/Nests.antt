-- A pass of a table of nested spin locks that holds three of them.
use Rattle.std.specs.Prelude.{IsSome}
use Rattle.lock_core.specs.declared.pass.Pass.{Pass}
use Rattle.lock_core.specs.declared.site.Site.{Site}
use Rattle.lock_core.specs.LockHands.{HoldsAt}
use Rattle.lock_core.specs.SiteHandles.{view_of, task_in, SitsAt, IsNestTold}

module _ {R O E C : Type 0} where
  pub record HoldsThree (site : Site R O E C) (pass : Pass R O E C) : Type 0 where
    pub own : SitsAt site pass
    pub numbered : IsSome (task_in pass)
    pub told : IsNestTold pass
    pub outer : HoldsAt 0 (view_of pass).spin
    pub inner : HoldsAt 1 (view_of pass).spin
    pub gate : HoldsAt 2 (view_of pass).spin
