-- The types that this crate speaks of, with their variants, from one place.
pub use Rattle.lock_core.specs.declared.op.Op.{Op}
pub use Rattle.lock_core.specs.declared.op.Op.TheVariants.{Add, And, Exchange, Load, Or, Store, Sub}
pub use Rattle.lock_core.specs.declared.pass.Face.{Face}
pub use Rattle.lock_core.specs.declared.pass.Pass.{Pass}
pub use Rattle.lock_core.specs.declared.view.Hand.{Hand}
pub use Rattle.lock_core.specs.declared.view.Held.{Held}
pub use Rattle.lock_core.specs.declared.view.Held.TheVariants.{Alone, No, Shared}
pub use Rattle.lock_core.specs.declared.view.Line.{Line}
pub use Rattle.lock_core.specs.declared.view.Moment.{Moment}
pub use Rattle.lock_core.specs.declared.view.Seen.{Seen}
pub use Rattle.lock_core.specs.declared.view.SpinHand.{SpinHand}
pub use Rattle.lock_core.specs.declared.view.View.{View}
pub use Rattle.rwsem_count.specs.declared.view.Bias.{Bias}
pub use Rattle.rwsem_count.specs.declared.view.Bias.TheVariants.{Clear, Reserve, Transit}
pub use Rattle.rwsem_wake.specs.declared.duty.SemWake.{SemWake}
pub use Rattle.rwsem_wake.specs.declared.view.RwSemHand.{RwSemHand}
pub use Rattle.rwsem_wake.specs.declared.view.SemHand.{SemHand}
pub use Rattle.rwsem_wake.specs.declared.view.Stage.{Stage}
pub use Rattle.rwsem_wake.specs.declared.view.Stage.TheVariants.{Armed, Counted, Emptied, First, Granting, Joining, Marked, Marking, Overdue, Removed, Removing, Rest, Summing, Took}
pub use Rattle.rwsem_wake.specs.declared.view.Wait.{Wait}
pub use Rattle.rwsem_wake.specs.declared.view.Wait.TheVariants.{Apart, Reads, Writes}
pub use Rattle.rwsem_wake.specs.declared.wake.WakeType.{WakeType}
pub use Rattle.rwsem_wake.specs.declared.wake.WakeType.TheVariants.{Any, ReadOwned, Readers}
pub use Rattle.wait_list.specs.declared.view.Change.{Change}
pub use Rattle.wait_list.specs.declared.view.Change.TheVariants.{Enter, Leave, Stay}
pub use Rattle.wait_list.specs.declared.view.ListHand.{ListHand}
pub use Rattle.wait_list.specs.declared.view.Waiter.{Waiter}
pub use Rattle.wake_duty.specs.declared.view.WaitState.{WaitState}
pub use Rattle.wake_duty.specs.declared.view.WaitState.TheVariants.{Absent, Awake, Tried}
pub use Rattle.word_bits.specs.declared.entry.Entry.{Entry}
