-- The types that this crate speaks of, with their variants, from one place.
pub use Rattle.lock_core.specs.declared.how.How.{How}
pub use Rattle.lock_core.specs.declared.how.How.TheVariants.{Fast, Slept, Spun}
pub use Rattle.lock_core.specs.declared.how.Interrupted.{Interrupted}
pub use Rattle.lock_core.specs.declared.pass.Face.{Face}
pub use Rattle.lock_core.specs.declared.pass.Pass.{Pass}
pub use Rattle.lock_core.specs.declared.site.Site.{Site}
pub use Rattle.lock_core.specs.declared.view.Hand.{Hand}
pub use Rattle.lock_core.specs.declared.view.Held.{Held}
pub use Rattle.lock_core.specs.declared.view.Held.TheVariants.{Alone, No}
pub use Rattle.lock_core.specs.declared.view.Line.{Line}
pub use Rattle.lock_core.specs.declared.view.Marks.{Marks}
pub use Rattle.lock_core.specs.declared.view.Moment.{Moment}
pub use Rattle.lock_core.specs.declared.view.Past.{Past}
pub use Rattle.lock_core.specs.declared.view.SpinHand.{SpinHand}
pub use Rattle.lock_core.specs.declared.view.View.{View}
pub use Rattle.mutex_slow.specs.declared.view.MutexHand.{MutexHand}
pub use Rattle.mutex_slow.specs.declared.view.Point.{Point}
pub use Rattle.mutex_slow.specs.declared.view.Point.TheVariants.{Empties, Joins, Rest}
pub use Rattle.mutex_word.specs.declared.host.Turn.{Turn}
pub use Rattle.mutex_word.specs.declared.host.Turn.TheVariants.{Ask, Clear, Fail, Flag, Free, Take}
pub use Rattle.mutex_word.specs.declared.tries.Tried.TheVariants.{Took}
pub use Rattle.osq_nodes.specs.declared.node.Place.TheVariants.{Head, Out}
pub use Rattle.wait_list.specs.declared.view.Change.{Change}
pub use Rattle.wait_list.specs.declared.view.Change.TheVariants.{Enter, Leave, Stay}
pub use Rattle.wait_list.specs.declared.view.ListHand.{ListHand}
pub use Rattle.wait_list.specs.declared.view.Waiter.{Waiter}
pub use Rattle.wake_duty.specs.declared.view.Duty.{Duty}
pub use Rattle.wake_duty.specs.declared.view.Duty.TheVariants.{Chosen, NoDuty, Owing}
pub use Rattle.wake_duty.specs.declared.view.WaitState.{WaitState}
pub use Rattle.wake_duty.specs.declared.view.WaitState.TheVariants.{Absent, Awake, Tried}
pub use Rattle.wake_duty.specs.declared.view.WakeHand.{WakeHand}
