-- The types that this crate speaks of, with their variants, from one place.
pub use Rattle.lock_core.specs.declared.how.How.{How}
pub use Rattle.lock_core.specs.declared.how.How.TheVariants.{Fast, Slept, Spun}
pub use Rattle.lock_core.specs.declared.how.Interrupted.{Interrupted}
pub use Rattle.lock_core.specs.declared.op.Op.TheVariants.{Exchange, Load}
pub use Rattle.lock_core.specs.declared.pass.Face.{Face}
pub use Rattle.lock_core.specs.declared.pass.Pass.{Pass}
pub use Rattle.lock_core.specs.declared.site.Site.{Site}
pub use Rattle.lock_core.specs.declared.tally.Tally.{Tally}
pub use Rattle.lock_core.specs.declared.view.Hand.{Hand}
pub use Rattle.lock_core.specs.declared.view.Held.{Held}
pub use Rattle.lock_core.specs.declared.view.Held.TheVariants.{Alone, No, Shared}
pub use Rattle.lock_core.specs.declared.view.Marks.{Marks}
pub use Rattle.lock_core.specs.declared.view.Moment.{Moment}
pub use Rattle.lock_core.specs.declared.view.Past.{Past}
pub use Rattle.lock_core.specs.declared.view.Seen.{Seen}
pub use Rattle.lock_core.specs.declared.view.SpinHand.{SpinHand}
pub use Rattle.osq_nodes.specs.declared.node.Place.TheVariants.{Head, Out}
pub use Rattle.rwsem_count.specs.declared.view.Bias.{Bias}
pub use Rattle.rwsem_count.specs.declared.view.Bias.TheVariants.{Clear, Reserve, Transit}
pub use Rattle.rwsem_count.specs.declared.word_steps.Write.TheVariants.{Fail, Mark, Take}
pub use Rattle.rwsem_wake.specs.declared.duty.SemWake.{SemWake}
pub use Rattle.rwsem_wake.specs.declared.view.RwSemHand.{RwSemHand}
pub use Rattle.rwsem_wake.specs.declared.view.SemHand.{SemHand}
pub use Rattle.rwsem_wake.specs.declared.view.Stage.{Stage}
pub use Rattle.rwsem_wake.specs.declared.view.Stage.TheVariants.{Armed, Counted, Emptied, First, Granting, Joining, Marked, Marking, Overdue, Removed, Removing, Rest, Summing, Took}
pub use Rattle.rwsem_wake.specs.declared.view.Wait.{Wait}
pub use Rattle.rwsem_wake.specs.declared.view.Wait.TheVariants.{Apart, Reads, Writes}
pub use Rattle.rwsem_wake.specs.declared.wake.WakeType.{WakeType}
pub use Rattle.rwsem_wake.specs.declared.wake.WakeType.TheVariants.{Any, ReadOwned}
pub use Rattle.wait_list.specs.declared.view.Change.{Change}
pub use Rattle.wait_list.specs.declared.view.Change.TheVariants.{Enter, Leave, Stay}
pub use Rattle.wait_list.specs.declared.view.ListHand.{ListHand}
pub use Rattle.wait_list.specs.declared.view.Waiter.{Waiter}
pub use Rattle.wake_duty.specs.declared.view.WaitState.{WaitState}
pub use Rattle.wake_duty.specs.declared.view.WaitState.TheVariants.{Absent, Awake, Tried}
pub use Rattle.word_bits.specs.declared.entry.Entry.{Entry}
