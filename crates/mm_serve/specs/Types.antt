-- The types that this crate speaks of, with their variants, from one place.
pub use Rattle.fd_table.specs.declared.call.TableCall.{TableCall}
pub use Rattle.fd_table.specs.declared.call.TableCall.TheVariants.{Close, Dup, Dup2, Get, Open}
pub use Rattle.guarded.specs.declared.guarded.Guarded.{Guarded}
pub use Rattle.lock_core.specs.declared.view.Hand.{Hand}
pub use Rattle.lock_core.specs.declared.view.Held.TheVariants.{No}
pub use Rattle.lock_core.specs.declared.view.Moment.{Moment}
pub use Rattle.lock_core.specs.declared.view.Told.{Told}
pub use Rattle.task_script.specs.declared.script.Line.{Line}
pub use Rattle.task_script.specs.declared.version.Version.{Version}
pub use Rattle.task_script.specs.declared.version.Version.TheVariants.{One, Two}
pub use Rattle.vma_map.specs.declared.call.SpaceCall.{SpaceCall}
pub use Rattle.vma_map.specs.declared.call.SpaceCall.TheVariants.{Fault, Map, MapAny, MapNew, Populate, Protect, Remap, Unmap}
pub use Rattle.word_bits.specs.declared.call.CallWords.{CallWords}
pub use Rattle.word_bits.specs.declared.entry.Entry.{Entry}
pub use Rattle.word_bits.specs.declared.rec.Rec.{Rec}
pub use Rattle.word_bits.specs.declared.reply.Reply.{Reply}
pub use Rattle.word_bits.specs.declared.reply.Reply.TheVariants.{AccErr, Busy, Good, Intr, MapErr, Num, Refused, Sent}
