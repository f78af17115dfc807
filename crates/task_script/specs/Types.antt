-- The types that this crate speaks of, with their variants, from one place.
pub use Rattle.task_script.specs.declared.reason.Reason.{Reason}
pub use Rattle.task_script.specs.declared.reason.Reason.TheVariants.{Access, Byte, Call, Limit, Name, Number, Place, Prot, TooLong, Twice, Unknown, Words}
pub use Rattle.task_script.specs.declared.token.Keyword.{Keyword}
pub use Rattle.task_script.specs.declared.token.Keyword.TheVariants.{Space, Table, Task}
pub use Rattle.task_script.specs.declared.verb.Argument.{Argument}
pub use Rattle.task_script.specs.declared.verb.Argument.TheVariants.{AccessBit, File, First, Protection, Second, Target, Third}
pub use Rattle.task_script.specs.declared.verb.Values.{Values}
pub use Rattle.task_script.specs.declared.version.Version.TheVariants.{One, Two}
pub use Rattle.word_bits.specs.declared.call.CallWords.{CallWords}
pub use Rattle.word_bits.specs.declared.call.Mode.{Mode}
pub use Rattle.word_bits.specs.declared.call.Mode.TheVariants.{Plain}
pub use Rattle.word_bits.specs.declared.kind.CallKind.{CallKind}
pub use Rattle.word_bits.specs.declared.kind.CallKind.TheVariants.{Close, Dup, Dup2, Fault, Get, Map, MapAny, MapNew, Open, Populate, Protect, Remap, Signal, Unmap}
