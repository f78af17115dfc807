-- What a reader of the command line answers.
use Rattle.std.specs.Prelude.{◌≡◌, Option, Some, None, Result, Ok, Err}
use Rattle.clap.specs.declared.error.kind.ErrorKind.{ErrorKind}
use Rattle.clap.specs.declared.error.kind.ErrorKind.TheVariants.{OutOfMemory}
use Rattle.mm_program.specs.declared.options.Options.{Options}
use Rattle.mm_program.specs.declared.options.OptionsError.{OptionsError}
use Rattle.mm_program.specs.declared.options.OptionsError.TheVariants.{Misused, Memory}

-- only one kind of fault isn't of the words
abbrev pub error_of : ErrorKind → OptionsError
error_of OutOfMemory = Memory
error_of kind = Misused

-- what the words say, or that they are no command line, unless memory ran out
abbrev pub Gives : Option Options → Result Options OptionsError → Type 0
Gives said (Ok options) = said ≡ Some options
Gives said (Err Misused) = said ≡ None
Gives said (Err Memory) = Unit {0}
