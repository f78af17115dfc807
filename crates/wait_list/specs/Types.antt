-- The types that this crate speaks of, with their variants, from one place.
pub use Rattle.lock_core.specs.declared.op.Op.TheVariants.{Load, Store}
pub use Rattle.lock_core.specs.declared.view.Frame.{Frame}
pub use Rattle.lock_core.specs.declared.view.Moment.{Moment}
pub use Rattle.lock_core.specs.declared.view.Point.{Point}
pub use Rattle.lock_core.specs.declared.view.Point.TheVariants.{Cleared, Clearing, Head, Holding, Linking, Out, Passing, Pending, Ready, Taking, Trying, Undoing, Waiting}
pub use Rattle.lock_core.specs.declared.view.SpinHand.{SpinHand}
pub use Rattle.lock_core.specs.declared.view.View.{View}
pub use Rattle.wait_list.specs.declared.view.Change.{Change}
pub use Rattle.wait_list.specs.declared.view.Change.TheVariants.{Enter, Leave, Stay}
pub use Rattle.wait_list.specs.declared.view.ListHand.{ListHand}
pub use Rattle.wait_list.specs.declared.view.Waiter.{Waiter}
