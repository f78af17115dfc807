-- The types that this crate speaks of, with their variants, from one place.
pub use Rattle.lock_core.specs.declared.op.Op.{Op}
pub use Rattle.lock_core.specs.declared.op.Op.TheVariants.{Exchange, Load, Store, Swap}
pub use Rattle.lock_core.specs.declared.pass.Face.{Face}
pub use Rattle.lock_core.specs.declared.view.Hand.{Hand}
pub use Rattle.lock_core.specs.declared.view.Marks.{Marks}
pub use Rattle.lock_core.specs.declared.view.Moment.{Moment}
pub use Rattle.lock_core.specs.declared.view.Seen.{Seen}
pub use Rattle.lock_core.specs.declared.view.SpinHand.{SpinHand}
pub use Rattle.lock_core.specs.declared.view.View.{View}
pub use Rattle.osq_nodes.specs.declared.node.Node.{Node}
pub use Rattle.osq_nodes.specs.declared.node.Place.{Place}
pub use Rattle.osq_nodes.specs.declared.node.Place.TheVariants.{Cleared, Granting, Head, Linking, Out, Relinking, Splicing, Swapped, Unlinked, Waiting}
