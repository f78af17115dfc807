-- What reading the whole input leaves.
use Rattle.std.specs.Prelude.{ℕ, Result, Ok, Err}
use Rattle.byte_streams.specs.Causes.{one_more}
use Rattle.mm_program.specs.declared.input.InputError.{InputError}
use Rattle.mm_program.specs.declared.input.InputError.TheVariants.{Memory, Failed}

-- the count of the source's faults, which only a read that failed raises
abbrev pub faults_after : {T : Type 0} → Result T InputError → ℕ → ℕ
faults_after (Err Failed) before = one_more before
faults_after (Err Memory) before = before
faults_after (Ok input) before = before
