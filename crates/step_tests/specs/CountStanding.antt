-- How a pass of a site with a count stands between two calls of its task.
use Rattle.std.specs.Prelude.{◌≡◌, false, IsSome}
use Rattle.lock_core.specs.declared.view.Held.TheVariants.{No}
use Rattle.rwsem_count.specs.declared.pass.CountPass.{CountPass}
use Rattle.rwsem_count.specs.declared.site.CountSite.{CountSite}
use Rattle.rwsem_count.specs.CountHandles.{SitsAt, held_in, task_in, transit_in}

module _ {O C : Type 0} where
  -- it has a task's number, holds nothing, and no try of it is in transit
  pub record IsReady (site : CountSite O C) (pass : CountPass O C) : Type 0 where
    pub own : SitsAt site pass
    pub numbered : IsSome (task_in pass)
    pub out : held_in pass ≡ No
    pub apart : transit_in pass ≡ false
