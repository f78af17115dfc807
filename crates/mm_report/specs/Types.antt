-- The types that this crate speaks of, with their variants, from one place.
pub use Rattle.fd_table.specs.declared.call.TableCall.{TableCall}
pub use Rattle.fd_table.specs.declared.call.TableCall.TheVariants.{Close, Dup, Dup2, Get, Open}
pub use Rattle.task_script.specs.declared.script.Line.{Line}
pub use Rattle.task_script.specs.declared.version.Version.{Version}
pub use Rattle.task_script.specs.declared.version.Version.TheVariants.{One, Two}
pub use Rattle.vma_map.specs.declared.call.SpaceCall.{SpaceCall}
pub use Rattle.vma_map.specs.declared.call.SpaceCall.TheVariants.{Map, MapAny, MapNew, Populate, Protect, Remap, Unmap}
pub use Rattle.word_bits.specs.declared.area.Area.{Area}
pub use Rattle.word_bits.specs.declared.call.CallWords.{CallWords}
pub use Rattle.word_bits.specs.declared.call.Mode.{Mode}
pub use Rattle.word_bits.specs.declared.call.Mode.TheVariants.{Int, Plain, Try}
pub use Rattle.word_bits.specs.declared.entry.Entry.{Entry}
pub use Rattle.word_bits.specs.declared.rec.Rec.{Rec}
pub use Rattle.word_bits.specs.declared.reply.Errno.{Errno}
pub use Rattle.word_bits.specs.declared.reply.Errno.TheVariants.{BadF, Exist, Inval, MFile, NoMem}
pub use Rattle.word_bits.specs.declared.reply.Reply.{Reply}
pub use Rattle.word_bits.specs.declared.reply.Reply.TheVariants.{AccErr, Busy, Good, Intr, MapErr, Num, Refused, Sent}
