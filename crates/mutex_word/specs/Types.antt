-- The types that this crate speaks of, with their variants, from one place.
pub use Rattle.lock_core.specs.declared.op.Op.TheVariants.{And, Exchange, Load, Or}
pub use Rattle.lock_core.specs.declared.pass.Face.{Face}
pub use Rattle.lock_core.specs.declared.pass.Pass.{Pass}
pub use Rattle.lock_core.specs.declared.view.Hand.{Hand}
pub use Rattle.lock_core.specs.declared.view.Held.{Held}
pub use Rattle.lock_core.specs.declared.view.Held.TheVariants.{Alone, No, Shared}
pub use Rattle.lock_core.specs.declared.view.Moment.{Moment}
pub use Rattle.lock_core.specs.declared.view.Past.{Past}
pub use Rattle.lock_core.specs.declared.view.Saw.{Saw}
pub use Rattle.lock_core.specs.declared.view.Seen.{Seen}
pub use Rattle.lock_core.specs.declared.view.SpinHand.{SpinHand}
pub use Rattle.lock_core.specs.declared.view.Stage.TheVariants.{Rest}
pub use Rattle.lock_core.specs.declared.view.View.{View}
pub use Rattle.mutex_word.specs.declared.host.Turn.{Turn}
pub use Rattle.mutex_word.specs.declared.host.Turn.TheVariants.{Ask, Clear, Fail, Flag, Free, Take}
pub use Rattle.word_bits.specs.declared.entry.Entry.{Entry}
pub use Rattle.word_bits.specs.declared.owner.Owner.{Owner}
