-- The types that this crate speaks of, with their variants, from one place.
pub use Rattle.lock_core.specs.declared.op.Op.TheVariants.{Store, Swap}
pub use Rattle.lock_core.specs.declared.view.Held.{Held}
pub use Rattle.lock_core.specs.declared.view.Held.TheVariants.{Alone, No}
pub use Rattle.lock_core.specs.declared.view.Moment.{Moment}
pub use Rattle.lock_core.specs.declared.view.View.{View}
pub use Rattle.wait_list.specs.declared.view.Waiter.{Waiter}
pub use Rattle.wake_duty.specs.declared.view.Duty.{Duty}
pub use Rattle.wake_duty.specs.declared.view.Duty.TheVariants.{Chosen, NoDuty, Owing}
pub use Rattle.wake_duty.specs.declared.view.WaitState.{WaitState}
pub use Rattle.wake_duty.specs.declared.view.WaitState.TheVariants.{Absent, Awake, Tried}
pub use Rattle.wake_duty.specs.declared.view.WakeHand.{WakeHand}
