-- The types that this crate speaks of, with their variants, from one place.
pub use Rattle.lock_core.specs.declared.op.Op.{Op}
pub use Rattle.lock_core.specs.declared.op.Op.TheVariants.{Add, And, Exchange, Load, Or, Sub}
pub use Rattle.lock_core.specs.declared.pass.Face.{Face}
pub use Rattle.lock_core.specs.declared.pass.Nesting.{Nesting}
pub use Rattle.lock_core.specs.declared.pass.Pass.{Pass}
pub use Rattle.lock_core.specs.declared.site.Site.{Site}
pub use Rattle.lock_core.specs.declared.view.Frame.{Frame}
pub use Rattle.lock_core.specs.declared.view.LockHand.{LockHand}
pub use Rattle.lock_core.specs.declared.view.Moment.{Moment}
pub use Rattle.lock_core.specs.declared.view.Point.{Point}
pub use Rattle.lock_core.specs.declared.view.Point.TheVariants.{Cleared, Head, Holding, Out, Passing, Pending, Ready, Taking, Trying, Undoing}
pub use Rattle.lock_core.specs.declared.view.Saw.{Saw}
pub use Rattle.lock_core.specs.declared.view.SpinHand.{SpinHand}
pub use Rattle.lock_core.specs.declared.view.View.{View}
