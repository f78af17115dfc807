-- The types that this crate speaks of, with their variants, from one place.
pub use Rattle.lock_core.specs.declared.how.How.{How}
pub use Rattle.lock_core.specs.declared.how.How.TheVariants.{Fast, Slept, Spun}
pub use Rattle.lock_core.specs.declared.how.Interrupted.{Interrupted}
pub use Rattle.lock_core.specs.declared.op.Op.{Op}
pub use Rattle.lock_core.specs.declared.op.Op.TheVariants.{Add, And, Exchange, Load, Or, Store, Sub, Swap}
pub use Rattle.lock_core.specs.declared.tally.Tally.{Tally}
pub use Rattle.lock_core.specs.declared.view.Frame.{Frame}
pub use Rattle.lock_core.specs.declared.view.Hand.{Hand}
pub use Rattle.lock_core.specs.declared.view.Heard.{Heard}
pub use Rattle.lock_core.specs.declared.view.Held.{Held}
pub use Rattle.lock_core.specs.declared.view.Held.TheVariants.{Alone, No, Shared}
pub use Rattle.lock_core.specs.declared.view.Line.{Line}
pub use Rattle.lock_core.specs.declared.view.LockHand.{LockHand}
pub use Rattle.lock_core.specs.declared.view.Marks.{Marks}
pub use Rattle.lock_core.specs.declared.view.Moment.{Moment}
pub use Rattle.lock_core.specs.declared.view.Past.{Past}
pub use Rattle.lock_core.specs.declared.view.Point.{Point}
pub use Rattle.lock_core.specs.declared.view.Point.TheVariants.{Cleared, Clearing, Head, Holding, Linking, Out, Passing, Pending, Ready, Taking, Trying, Undoing, Waiting}
pub use Rattle.lock_core.specs.declared.view.Saw.{Saw}
pub use Rattle.lock_core.specs.declared.view.Seen.{Seen}
pub use Rattle.lock_core.specs.declared.view.SpinHand.{SpinHand}
pub use Rattle.lock_core.specs.declared.view.Stage.{Stage}
pub use Rattle.lock_core.specs.declared.view.Stage.TheVariants.{Entered, Logged, Rest}
pub use Rattle.lock_core.specs.declared.view.Told.{Told}
pub use Rattle.lock_core.specs.declared.view.View.{View}
pub use Rattle.word_bits.specs.declared.call.CallWords.{CallWords}
pub use Rattle.word_bits.specs.declared.call.Mode.TheVariants.{Int, Plain, Try}
pub use Rattle.word_bits.specs.declared.entry.Entry.{Entry}
pub use Rattle.word_bits.specs.declared.rec.Rec.{Rec}
pub use Rattle.word_bits.specs.declared.reply.Errno.{Errno}
pub use Rattle.word_bits.specs.declared.reply.Errno.TheVariants.{BadF, Exist, Fault, Inval, MFile, NoMem}
pub use Rattle.word_bits.specs.declared.reply.Reply.{Reply}
pub use Rattle.word_bits.specs.declared.reply.Reply.TheVariants.{AccErr, Busy, Good, Intr, MapErr, Num, Refused, Sent}
pub use Rattle.word_bits.specs.declared.spin.Spin.{Spin}
