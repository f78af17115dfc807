-- A pass of a spin queue between two tasks.
use Rattle.std.specs.Prelude.{◌≡◌, None}
use Rattle.osq_nodes.specs.declared.node.Place.TheVariants.{Out}
use Rattle.osq_nodes.specs.declared.pass.OsqPass.{OsqPass}
use Rattle.osq_nodes.specs.declared.queue.Osq.{Osq}
use Rattle.osq_nodes.specs.OsqHandles.{place_in, task_in, SitsAt}

-- it has no number, and stands outside the queue
pub record IsIdle (osq : Osq) (pass : OsqPass) : Type 0 where
  pub own : SitsAt osq pass
  pub numberless : task_in pass ≡ None
  pub out : place_in pass ≡ Out
