-- The types that this crate speaks of, with their variants, from one place.
pub use Rattle.fd_table.specs.declared.call.TableCall.{TableCall}
pub use Rattle.fd_table.specs.declared.call.TableCall.TheVariants.{Close, Dup, Dup2, Get, Open}
pub use Rattle.lock_core.specs.declared.how.How.{How}
pub use Rattle.lock_core.specs.declared.how.How.TheVariants.{Fast, Slept, Spun}
pub use Rattle.lock_core.specs.declared.how.Interrupted.{Interrupted}
pub use Rattle.lock_core.specs.declared.tally.Tally.{Tally}
pub use Rattle.lock_core.specs.declared.view.Hand.{Hand}
pub use Rattle.lock_core.specs.declared.view.Held.{Held}
pub use Rattle.lock_core.specs.declared.view.Held.TheVariants.{Alone, No}
pub use Rattle.lock_core.specs.declared.view.Line.{Line}
pub use Rattle.lock_core.specs.declared.view.Moment.{Moment}
pub use Rattle.lock_core.specs.declared.view.Stage.{Stage}
pub use Rattle.lock_core.specs.declared.view.Stage.TheVariants.{Logged}
pub use Rattle.lock_core.specs.declared.view.Told.{Told}
pub use Rattle.vma_map.specs.declared.call.SpaceCall.{SpaceCall}
pub use Rattle.vma_map.specs.declared.call.SpaceCall.TheVariants.{Fault, Map, MapAny, MapNew, Populate, Protect, Remap, Unmap}
pub use Rattle.word_bits.specs.declared.area.Area.{Area}
pub use Rattle.word_bits.specs.declared.call.CallWords.{CallWords}
pub use Rattle.word_bits.specs.declared.call.Mode.{Mode}
pub use Rattle.word_bits.specs.declared.call.Mode.TheVariants.{Int, Try}
pub use Rattle.word_bits.specs.declared.entry.Entry.{Entry}
pub use Rattle.word_bits.specs.declared.rec.Rec.{Rec}
pub use Rattle.word_bits.specs.declared.reply.Errno.{Errno}
pub use Rattle.word_bits.specs.declared.reply.Errno.TheVariants.{BadF, Inval, MFile, NoMem}
pub use Rattle.word_bits.specs.declared.reply.Reply.{Reply}
pub use Rattle.word_bits.specs.declared.reply.Reply.TheVariants.{AccErr, Busy, Good, Intr, MapErr, Num, Refused, Sent}
