-- What a reader answers, and what it does with one line.
use Rattle.std.specs.Prelude.{◌≡◌, Result, Ok, Err}
use Rattle.task_script.specs.declared.script.Script.{Script}
use Rattle.task_script.specs.declared.draft.Draft.{Draft}
use Rattle.task_script.specs.declared.draft.LineError.{LineError}
use Rattle.task_script.specs.declared.draft.LineError.TheVariants.{Refused, Memory}
use Rattle.task_script.specs.declared.reader.ScriptError.{ScriptError}
use Rattle.task_script.specs.declared.reader.ScriptError.TheVariants.{Refused as RefusedLine, Memory as NoMemory}
use Rattle.task_script.specs.Scripts.{Listing}
use Rattle.task_script.specs.Grammar.{Accepted, Refusal}

-- a step's answer is the grammar's of its line, unless memory ran out
abbrev pub Becomes : Result (Unit {0}) LineError → Listing → Accepted → Type 0
Becomes (Ok u) new accepted = accepted ≡ Ok new
Becomes (Err (Refused reason)) new accepted = accepted ≡ Err reason
Becomes (Err Memory) new accepted = Unit {0}

-- the answer of all lines is the grammar's, unless memory ran out
abbrev pub ReadsLines : Result Draft ScriptError → Result Listing Refusal → Type 0
ReadsLines (Ok s) r = r ≡ Ok s
ReadsLines (Err (RefusedLine line reason)) r = r ≡ Err (record { line = line; reason = reason })
ReadsLines (Err NoMemory) r = Unit {0}

-- a reader's answer is the grammar's, unless memory ran out
abbrev pub Reads : Result Script ScriptError → Result Listing Refusal → Type 0
Reads (Ok s) r = r ≡ Ok s
Reads (Err (RefusedLine line reason)) r = r ≡ Err (record { line = line; reason = reason })
Reads (Err NoMemory) r = Unit {0}
