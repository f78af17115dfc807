-- The types that this crate speaks of, with their variants, from one place.
pub use Rattle.lock_core.specs.declared.view.Hand.{Hand}
pub use Rattle.lock_core.specs.declared.view.Held.{Held}
pub use Rattle.lock_core.specs.declared.view.Held.TheVariants.{Alone, No, Shared}
pub use Rattle.lock_core.specs.declared.view.Moment.{Moment}
pub use Rattle.lock_core.specs.declared.view.SpinHand.{SpinHand}
pub use Rattle.mutex_slow.specs.declared.calls.Mutex.{Mutex}
pub use Rattle.word_bits.specs.declared.call.CallWords.{CallWords}
pub use Rattle.word_bits.specs.declared.entry.Entry.{Entry}
pub use Rattle.word_bits.specs.declared.rec.Rec.{Rec}
pub use Rattle.word_bits.specs.declared.reply.Errno.{Errno}
pub use Rattle.word_bits.specs.declared.reply.Reply.{Reply}
pub use Rattle.word_bits.specs.declared.reply.Reply.TheVariants.{AccErr, Busy, Good, Intr, MapErr, Num, Refused, Sent}
