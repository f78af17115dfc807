-- What the words of the command line and the input call for, and what is then said.
use Rattle.std.specs.Prelude.{ℕ, Bool, true, false, List, ◌++◌, codes, decimal, Option, Some, None, is_none, Result, Ok, Err}
use Rattle.mm_program.specs.Types.{Reason, TooLong, Byte, Version, Words, Place, Name, Twice, Limit, Unknown, Call, Mode, Number, Prot, Access}
use Rattle.task_script.specs.Scripts.{Listing}
use Rattle.task_script.specs.Generated.{generated}
use Rattle.task_script.specs.Grammar.{Refusal, script_of}
use Rattle.mm_program.specs.declared.options.Options.{Options}

-- the words ask how to use the program, or they are no command line, or the input is refused, or it is a script, of which the text or the summary is asked for
pub data Request : Type 0 where
  helped : Request
  misused : Request
  refused : Refusal → Request
  accepted : (summary : Bool) → Listing → Request

abbrev pub request_of : (summary : Bool) → Result Listing Refusal → Request
request_of summary (Ok s) = accepted summary s
request_of summary (Err r) = refused r

-- the script of a number, where there is one, and else of the input
abbrev pub script_for : Option ℕ → (input : List ℕ) → Result Listing Refusal
script_for (Some number) input = Ok (generated number)
script_for None input = script_of input

-- from whether the words ask how to use the program, and what they say, if they are a command line
abbrev pub request : (asks : Bool) → Option Options → (input : List ℕ) → Request
request true said input = helped
request false None input = misused
request false (Some o) input = request_of o.summary (script_for o.generate input)

-- whether the input is read
abbrev pub reads_input : Option Options → Bool
reads_input None = false
reads_input (Some o) = is_none o.generate

abbrev pub usage_text : List ℕ
usage_text = codes "usage: mm_main [--spin N] [--overdue N] [--generate N] [--summary]\n"

abbrev pub help_text : List ℕ
help_text =
    codes "usage: mm_main [--spin N] [--overdue N] [--generate N] [--summary] < SCRIPT\n"
    ++ codes "Does the tasks of a script at once, each on a thread, and prints for each\n"
    ++ codes "object one history: every call with its reply, and the state that is left.\n"
    ++ codes "  --summary     one line for each object in place of its history\n"
    ++ codes "  --generate N  a script that is made from N, up to 4294967295; none is read\n"
    ++ codes "  --spin N      how often a CPU is asked before a spin ends: 100, or N up to 1000000\n"
    ++ codes "  --overdue N   how often before a wait is too long: 4, or N up to 1000000\n"
    ++ codes "A script has up to 1048576 bytes, 16 objects and 64 tasks, for example\n"
    ++ codes "    space a\n"
    ++ codes "    table t\n"
    ++ codes "    task\n"
    ++ codes "    a map 16 4 rw-\n"
    ++ codes "    a fault 17 w\n"
    ++ codes "    task\n"
    ++ codes "    t open 7\n"
    ++ codes "    try a unmap 16 2\n"
    ++ codes "Behind a first line 'version 2' it has up to 32 objects and 400 tasks, and the\n"
    ++ codes "call remap. docs/PROGRAM.md has all calls, and says what each refusal means.\n"
    ++ codes "Status: 0 done, 2 misuse, 3 a line is refused, 4 the input can't be read,\n"
    ++ codes "5 the output can't be written, 6 no memory\n"

-- a reason's name
abbrev pub reason_text : Reason → List ℕ
reason_text TooLong = codes "TooLong"
reason_text Byte = codes "Byte"
reason_text Version = codes "Version"
reason_text Words = codes "Words"
reason_text Place = codes "Place"
reason_text Name = codes "Name"
reason_text Twice = codes "Twice"
reason_text Limit = codes "Limit"
reason_text Unknown = codes "Unknown"
reason_text Call = codes "Call"
reason_text Mode = codes "Mode"
reason_text Number = codes "Number"
reason_text Prot = codes "Prot"
reason_text Access = codes "Access"

-- refused LINE REASON
abbrev pub refusal_text : Refusal → List ℕ
refusal_text r = codes "refused " ++ decimal r.line ++ codes " " ++ reason_text r.reason ++ codes "\n"
