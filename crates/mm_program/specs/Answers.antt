-- What the program answers, and what it has written and keeps then.
use Rattle.std.specs.Prelude.{◌≡◌, ◌≤◌, ℕ, Bool, List, length, codes, Option, Some, None, IfSome, Ok, ◌⊎◌}
use Rattle.std.specs.Io.KnownBytes.{Appends, Consumes, Keeps}
use Rattle.byte_streams.specs.Causes.{Fronts, Rose, one_more}
use Rattle.task_script.specs.Scripts.{Listing}
use Rattle.task_script.specs.Generated.{generated}
use Rattle.task_script.specs.Grammar.{script_of}
use Rattle.mm_report.specs.Results.{Told}
use Rattle.mm_report.specs.Reports.{report_of}
use Rattle.mm_program.specs.declared.options.Options.{Options}
use Rattle.mm_program.specs.declared.status.Status.{Status}
use Rattle.mm_program.specs.declared.status.Status.TheVariants.{Done, Usage, Refused, ReadFault, WriteFault, NoMemory}
use Rattle.mm_program.specs.Requests.{Request, helped, misused, refused, accepted, help_text, usage_text, refusal_text}

-- that a machine has done all calls of a script, and that its results tell this of the script's objects
abbrev pub Service : (M : Type 0) → Type 1
Service M = Listing → List Told → M → Type 0

-- no machine is there
abbrev pub NoService : Service (Unit {0})
NoService s told m = ⊥

module _ {M : Type 0} (Serves : Service M) (kept : Option M) where
  -- the machine that ran the script is kept, and of the text or summary of its results this holds
  abbrev pub OfKept : (summary : Bool) → Listing → (List ℕ → Type 0) → Type 0
  OfKept summary s P = (m : M) × (told : List Told) × (kept ≡ Some m) × Serves s told m × P (report_of summary s told)

  -- Each status has its cause, and says what was written and kept. Read and write say that the count of that stream's faults rose.
  abbrev pub Says : Request → (read write : Type 0) → (old new : Option (List ℕ)) → Status → Type 0
  Says helped read write old new Done = (kept ≡ None) × Appends old new help_text
  Says helped read write old new WriteFault = (kept ≡ None) × write × Fronts old new help_text
  Says helped read write old new NoMemory = (kept ≡ None) × Keeps old new
  Says helped read write old new Usage = ⊥
  Says helped read write old new Refused = ⊥
  Says helped read write old new ReadFault = ⊥
  Says misused read write old new Usage = (kept ≡ None) × Appends old new usage_text
  Says misused read write old new WriteFault = (kept ≡ None) × write × Fronts old new usage_text
  Says misused read write old new NoMemory = (kept ≡ None) × Keeps old new
  Says misused read write old new Done = ⊥
  Says misused read write old new Refused = ⊥
  Says misused read write old new ReadFault = ⊥
  Says (refused r) read write old new Refused = (kept ≡ None) × Appends old new (refusal_text r)
  Says (refused r) read write old new ReadFault = (kept ≡ None) × read × Keeps old new
  Says (refused r) read write old new WriteFault = (kept ≡ None) × write × Fronts old new (refusal_text r)
  Says (refused r) read write old new NoMemory = (kept ≡ None) × Keeps old new
  Says (refused r) read write old new Done = ⊥
  Says (refused r) read write old new Usage = ⊥
  Says (accepted summary s) read write old new Done = OfKept summary s (Appends old new)
  Says (accepted summary s) read write old new ReadFault = (kept ≡ None) × read × Keeps old new
  Says (accepted summary s) read write old new WriteFault = write × OfKept summary s (Fronts old new)
  Says (accepted summary s) read write old new NoMemory = (kept ≡ None) × Keeps old new
  Says (accepted summary s) read write old new Usage = ⊥
  Says (accepted summary s) read write old new Refused = ⊥

  -- the same of the input that the source told, or of some input where it tells none
  abbrev pub Answers : (calls_for : List ℕ → Request) → (left : Option (List ℕ)) → (read write : Type 0) → (old new : Option (List ℕ)) → Status → Type 0
  Answers calls_for left read write old new status = (input : List ℕ) × IfSome left (λ told. told ≡ input) × Says (calls_for input) read write old new status

abbrev pub status_number : Status → ℕ
status_number Done = 0
status_number Usage = 2
status_number Refused = 3
status_number ReadFault = 4
status_number WriteFault = 5
status_number NoMemory = 6

-- what is told on standard error, where the program didn't do what it was asked for
abbrev pub complaint_text : Status → Option (List ℕ)
complaint_text Done = None
complaint_text Usage = Some (codes "a script is read from standard input; --help says more")
complaint_text Refused = Some (codes "docs/PROGRAM.md says what each reason means")
complaint_text ReadFault = Some (codes "standard input can't be read")
complaint_text WriteFault = Some (codes "standard output can't be written")
complaint_text NoMemory = Some (codes "there is no memory")

-- there is this script: that of a number, or the one that the source tells
abbrev pub GivesScript : Option ℕ → (left : Option (List ℕ)) → Listing → Type 0
GivesScript (Some number) left s = s ≡ generated number
GivesScript None None s = ⊥
GivesScript None (Some input) s = script_of input ≡ Ok s

-- Where the words are a command line, there is a script and no count of faults rose, the whole text or summary is written, or there was no memory.
abbrev pub Completes : {M : Type 0} → Service M → (kept : Option M) → Option Options → (left : Option (List ℕ)) → (read write : Type 0) → (old new : Option (List ℕ)) → Status → Type 0
Completes Serves kept said left read write old new status =
    (o : Options) (s : Listing) → said ≡ Some o → GivesScript o.generate left s → ¬ read → ¬ write → (status ≡ NoMemory) ⊎ ((status ≡ Done) × OfKept Serves kept o.summary s (Appends old new))

-- What is said to a sink, which tells how many of its writes failed and what was written to it. Nothing is read.
abbrev pub SaysTo : {K M : Type 0} → (faults : K → ℕ) → (written : K → Option (List ℕ)) → (old new : K) → Service M → (kept : Option M) → Request → Status → Type 0
SaysTo faults written old new Serves kept asked status = Says Serves kept asked ⊥ (Rose (faults old) (faults new)) (written old) (written new) status

-- the same beside a source, which tells what is left and how many of its reads failed
module _ {S K : Type 0} (left : S → Option (List ℕ)) (reads : S → ℕ) (writes : K → ℕ) (written : K → Option (List ℕ)) (source read : S) (sink wrote : K) where
  abbrev pub AnswersTo : {M : Type 0} → Service M → (kept : Option M) → (calls_for : List ℕ → Request) → Status → Type 0
  AnswersTo Serves kept calls_for status = Answers Serves kept calls_for (left source) (Rose (reads source) (reads read)) (Rose (writes sink) (writes wrote)) (written sink) (written wrote) status

  abbrev pub CompletesTo : {M : Type 0} → Service M → (kept : Option M) → Option Options → Status → Type 0
  CompletesTo Serves kept said status = Completes Serves kept said (left source) (Rose (reads source) (reads read)) (Rose (writes sink) (writes wrote)) (written sink) (written wrote) status

-- the count of the source's faults, which is one higher exactly where the status says that a read failed
abbrev pub read_faults : Status → ℕ → ℕ
read_faults ReadFault before = one_more before
read_faults status before = before

-- the same of the sink's and a write
abbrev pub write_faults : Status → ℕ → ℕ
write_faults WriteFault before = one_more before
write_faults status before = before

-- at most so many bytes were taken from a source that tells what is left
abbrev pub TakesAtMost : (most : ℕ) → (old new : Option (List ℕ)) → Type 0
TakesAtMost most old new = (taken : List ℕ) × Consumes old new taken × (length taken ≤ most)
