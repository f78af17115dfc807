-- The types that this crate speaks of, with their variants, from one place.
pub use Rattle.lock_core.specs.declared.op.Op.TheVariants.{Exchange, Load, Or, Store}
pub use Rattle.lock_core.specs.declared.pass.Nesting.{Nesting}
pub use Rattle.lock_core.specs.declared.pass.Pass.{Pass}
pub use Rattle.lock_core.specs.declared.site.Site.{Site}
pub use Rattle.lock_core.specs.declared.view.Frame.{Frame}
pub use Rattle.lock_core.specs.declared.view.Hand.{Hand}
pub use Rattle.lock_core.specs.declared.view.LockHand.{LockHand}
pub use Rattle.lock_core.specs.declared.view.Moment.{Moment}
pub use Rattle.lock_core.specs.declared.view.Point.{Point}
pub use Rattle.lock_core.specs.declared.view.Point.TheVariants.{Cleared, Clearing, Head, Holding, Linking, Out, Passing, Ready, Taking, Trying, Waiting}
pub use Rattle.lock_core.specs.declared.view.SpinHand.{SpinHand}
pub use Rattle.lock_core.specs.declared.view.View.{View}
pub use Rattle.word_bits.specs.declared.spin.Tail.{Tail}
