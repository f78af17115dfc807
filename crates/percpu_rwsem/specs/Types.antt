-- The types that this crate speaks of, with their variants, from one place.
pub use Rattle.lock_core.specs.declared.op.Op.{Op}
pub use Rattle.lock_core.specs.declared.op.Op.TheVariants.{Add, Exchange, Load, Store, Sub}
pub use Rattle.lock_core.specs.declared.pass.Face.{Face}
pub use Rattle.lock_core.specs.declared.pass.Pass.{Pass}
pub use Rattle.lock_core.specs.declared.view.Hand.{Hand}
pub use Rattle.lock_core.specs.declared.view.Held.{Held}
pub use Rattle.lock_core.specs.declared.view.Held.TheVariants.{Alone, No, Shared}
pub use Rattle.lock_core.specs.declared.view.Marks.{Marks}
pub use Rattle.lock_core.specs.declared.view.Moment.{Moment}
pub use Rattle.lock_core.specs.declared.view.Past.{Past}
pub use Rattle.lock_core.specs.declared.view.Seen.{Seen}
pub use Rattle.lock_core.specs.declared.view.SpinHand.{SpinHand}
pub use Rattle.lock_core.specs.declared.view.Stage.TheVariants.{Rest}
pub use Rattle.lock_core.specs.declared.view.View.{View}
pub use Rattle.percpu_rwsem.specs.declared.view.Phase.{Phase}
pub use Rattle.percpu_rwsem.specs.declared.view.Phase.TheVariants.{Added, Back, Blocks, Idle, Reads}
pub use Rattle.word_bits.specs.declared.entry.Entry.{Entry}
