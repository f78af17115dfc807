-- What was read decides as the whole input does.
use Rattle.std.specs.Prelude.{is_none}
use Rattle.std.proofs.Common.{◌≡◌, ℕ, ◌+◌, ◌<◌, ◌≤◌, Bool, true, false, List, [], ◌++◌, length, length-append, append_assoc, sym, refl, ap, ◌∙◌, arith, append-nil, Option, Some, None, Result, Ok, Err, nat_lt, ◌⊎◌, inl, inr, subst}
use Rattle.std.proofs.lemmas.Bool.{cases_lt, false≢true}
use Rattle.std.proofs.lemmas.Bool.Decides.{nat_tests}
use Rattle.std.specs.Option.{IfSome}
use Rattle.std.specs.Io.KnownBytes.{Consumes, IsAtEnd, Keeps, Appends}
use Rattle.task_script.specs.Scripts.{Listing}
use Rattle.task_script.specs.declared.reader.ScriptError.TheVariants.{Refused as RefusedLine}
use Rattle.task_script.specs.Grammar.{Refusal, script_of}
use Rattle.task_script.specs.Readings.{Reads}
use Rattle.mm_program.specs.declared.status.Status.{Status}
use Rattle.mm_program.specs.declared.status.Status.TheVariants.{Done, Usage, Refused, ReadFault, WriteFault, NoMemory}
use Rattle.task_script.specs.Generated.{generated}
use Rattle.mm_program.specs.declared.options.Options.{Options}
use Rattle.mm_program.specs.Requests.{Request, helped, misused, refused, accepted, reads_input, request, request_of, script_for}
use Rattle.mm_program.specs.Answers.{Service, NoService, Says, OfKept, Answers, Completes, GivesScript, TakesAtMost, read_faults}
use Rattle.mm_program.specs.Types.{ScriptError, Reason}

Keeps-refl : (a : Option (List ℕ)) → Keeps a a
Keeps-refl None = tt
Keeps-refl (Some xs) = refl

too_long : (xs ys : List ℕ) → 1048576 < length xs → 1048576 < length ys → script_of xs ≡ script_of ys
too_long xs ys a b = let p : nat_lt 1048576 (length xs) ≡ true = grind (arith, nat_tests) in let q : nat_lt 1048576 (length ys) ≡ true = grind (arith, nat_tests) in rw (p, q) refl

same_told : (told v rest : List ℕ) → told ≡ v ++ rest → length v ≤ 1048577 → (length v < 1048577 → rest ≡ []) → (length v < 1048577) ⊎ (1048577 ≤ length v) → script_of told ≡ script_of v
same_told told v rest took most enough (inl short) = ap script_of (took ∙ ap (λ r. v ++ r) (enough short) ∙ append-nil v)
same_told told v rest took most enough (inr long) = too_long told v (let n = ap length took in omega (arith, length-append v rest)) (omega arith)

-- the input that was told, or what was read where none is
pub same_input : (a b : Option (List ℕ)) (v : List ℕ) → Consumes a b v → length v ≤ 1048577 → (length v < 1048577 → IsAtEnd b) → (input : List ℕ) × IfSome a (λ told. told ≡ input) × (script_of input ≡ script_of v)
same_input None b v took most enough = (v, tt, refl)
same_input (Some told) None v took most enough = absurd took
same_input (Some told) (Some rest) v took most enough = (told, refl, same_told told v rest took most enough (cases_lt (length v) 1048577))

pub any_input : (a : Option (List ℕ)) → (input : List ℕ) × IfSome a (λ told. told ≡ input)
any_input None = ([], tt)
any_input (Some told) = (told, refl)

module _ {M : Type 0} (Serves : Service M) (kept : Option M) where
  -- what is said where no read failed is said
  pub said : (r t : Request) (read write : Type 0) (old new : Option (List ℕ)) (s : Status) → t ≡ r → Says Serves kept r ⊥ write old new s → Says Serves kept t read write old new s
  said r t read write old new s e h = subst (λ q. Says Serves kept q read write old new s) (sym e) (more r s h)
    where
      more : (q : Request) (s : Status) → Says Serves kept q ⊥ write old new s → Says Serves kept q read write old new s
      more helped Done h = h
      more helped Usage h = h
      more helped Refused h = h
      more helped ReadFault h = h
      more helped WriteFault h = h
      more helped NoMemory h = h
      more misused Done h = h
      more misused Usage h = h
      more misused Refused h = h
      more misused ReadFault h = h
      more misused WriteFault h = h
      more misused NoMemory h = h
      more (refused p) Done h = h
      more (refused p) Usage h = h
      more (refused p) Refused h = h
      more (refused p) ReadFault h = absurd h.1
      more (refused p) WriteFault h = h
      more (refused p) NoMemory h = h
      more (accepted summary p) Done h = h
      more (accepted summary p) Usage h = h
      more (accepted summary p) Refused h = h
      more (accepted summary p) ReadFault h = absurd h.1
      more (accepted summary p) WriteFault h = h
      more (accepted summary p) NoMemory h = h

  -- where a read failed nothing was written or kept, whatever the input
  pub said_failed : (input : List ℕ) (summary : Bool) (read write : Type 0) (old : Option (List ℕ)) → kept ≡ None → read → Says Serves kept (request_of summary (script_of input)) read write old old ReadFault
  said_failed input summary read write old none cause = failed (script_of input)
    where
      failed : (q : Result Listing Refusal) → Says Serves kept (request_of summary q) read write old old ReadFault
      failed (Ok s) = (none, cause, Keeps-refl old)
      failed (Err e) = (none, cause, Keeps-refl old)

  -- and so it is where there was no memory
  pub said_no_memory : (r : Request) (read write : Type 0) (old : Option (List ℕ)) → kept ≡ None → Says Serves kept r read write old old NoMemory
  said_no_memory helped read write old none = (none, Keeps-refl old)
  said_no_memory misused read write old none = (none, Keeps-refl old)
  said_no_memory (refused r) read write old none = (none, Keeps-refl old)
  said_no_memory (accepted summary s) read write old none = (none, Keeps-refl old)

  complete_for : (summary : Bool) (s : Listing) (read write : Type 0) (old new : Option (List ℕ)) (status : Status) → Says Serves kept (accepted summary s) read write old new status → ¬ read → ¬ write
      → (status ≡ NoMemory) ⊎ ((status ≡ Done) × OfKept Serves kept summary s (Appends old new))
  complete_for summary s read write old new Done h r w = inr (refl, h)
  complete_for summary s read write old new Usage h r w = absurd h
  complete_for summary s read write old new Refused h r w = absurd h
  complete_for summary s read write old new ReadFault h r w = absurd (r h.1)
  complete_for summary s read write old new WriteFault h r w = absurd (w h.0)
  complete_for summary s read write old new NoMemory h r w = inl refl

  -- what is said where no machine is there is said where none is kept
  pub said_unkept : (r : Request) (read write : Type 0) (old new : Option (List ℕ)) (s : Status) → kept ≡ None → Says NoService None r read write old new s → Says Serves kept r read write old new s
  said_unkept helped read write old new Done none h = (none, h.1)
  said_unkept helped read write old new Usage none h = h
  said_unkept helped read write old new Refused none h = h
  said_unkept helped read write old new ReadFault none h = h
  said_unkept helped read write old new WriteFault none h = (none, h.1, h.2)
  said_unkept helped read write old new NoMemory none h = (none, h.1)
  said_unkept misused read write old new Done none h = h
  said_unkept misused read write old new Usage none h = (none, h.1)
  said_unkept misused read write old new Refused none h = h
  said_unkept misused read write old new ReadFault none h = h
  said_unkept misused read write old new WriteFault none h = (none, h.1, h.2)
  said_unkept misused read write old new NoMemory none h = (none, h.1)
  said_unkept (refused p) read write old new Done none h = h
  said_unkept (refused p) read write old new Usage none h = h
  said_unkept (refused p) read write old new Refused none h = (none, h.1)
  said_unkept (refused p) read write old new ReadFault none h = (none, h.1, h.2)
  said_unkept (refused p) read write old new WriteFault none h = (none, h.1, h.2)
  said_unkept (refused p) read write old new NoMemory none h = (none, h.1)
  said_unkept (accepted summary p) read write old new Done none h = absurd h.3
  said_unkept (accepted summary p) read write old new Usage none h = h
  said_unkept (accepted summary p) read write old new Refused none h = h
  said_unkept (accepted summary p) read write old new ReadFault none h = (none, h.1, h.2)
  said_unkept (accepted summary p) read write old new WriteFault none h = absurd h.1.3
  said_unkept (accepted summary p) read write old new NoMemory none h = (none, h.1)

-- a reader that refuses says what the grammar does
pub refused_by : (r : Result Listing Refusal) (e : ScriptError) (line : ℕ) (reason : Reason) → e ≡ RefusedLine line reason → Reads (Err e) r → r ≡ Err (record { line = line; reason = reason })
refused_by r e line reason is reads = subst (λ (x : ScriptError). Reads (Err x) r) is reads

-- the script that there is is the one of the request
gives_request : (generate : Option ℕ) (left : Option (List ℕ)) (input : List ℕ) (s : Listing) → IfSome left (λ told. told ≡ input) → GivesScript generate left s → script_for generate input ≡ Ok s
gives_request (Some number) left input s told given = ap Ok (sym given)
gives_request None None input s told given = absurd given
gives_request None (Some xs) input s told given = ap script_of (sym told) ∙ given

module _ {M : Type 0} (Serves : Service M) (kept : Option M) where
  -- the table of statuses is complete
  pub completes : (said : Option Options) (left : Option (List ℕ)) (read write : Type 0) (old new : Option (List ℕ)) (status : Status) → Answers Serves kept (request false said) left read write old new status → Completes Serves kept said left read write old new status
  completes said left read write old new status answer = λ o s is given no_read no_write.
      let asked : request false said answer.0 ≡ accepted o.summary s = ap (λ q. request false q answer.0) is ∙ ap (request_of o.summary) (gives_request o.generate left answer.0 s answer.1 given) in
      complete_for Serves kept o.summary s read write old new status (subst (λ q. Says Serves kept q read write old new status) asked answer.2) no_read no_write

  -- what is answered to the request of these words
  pub answers_as : (said : Option Options) (asked : List ℕ → Request) (left : Option (List ℕ)) (read write : Type 0) (old new : Option (List ℕ)) (status : Status) → ((input : List ℕ) → asked input ≡ request false said input)
      → Answers Serves kept asked left read write old new status → Answers Serves kept (request false said) left read write old new status
  answers_as said asked left read write old new status same answer = (answer.0, answer.1, subst (λ q. Says Serves kept q read write old new status) (same answer.0) answer.2)

  -- what is answered to words that don't ask how to use the program
  pub answers_unasked : (asks : Bool) (said : Option Options) (left : Option (List ℕ)) (read write : Type 0) (old new : Option (List ℕ)) (status : Status) → asks ≡ false → Answers Serves kept (request false said) left read write old new status
      → Answers Serves kept (request asks said) left read write old new status
  answers_unasked asks said left read write old new status none answer = subst (λ b. Answers Serves kept (request b said) left read write old new status) (sym none) answer

  -- words that say nothing ask for no script
  pub completes_nothing : (said : Option Options) (left : Option (List ℕ)) (read write : Type 0) (old new : Option (List ℕ)) (status : Status) → said ≡ None → Completes Serves kept said left read write old new status
  completes_nothing said left read write old new status none = λ o s is given no_read no_write. absurd (false≢true (sym (ap is_none (sym none ∙ is))))

  -- where there is no memory, no script has to be done
  pub completes_memory : (said : Option Options) (left : Option (List ℕ)) (read write : Type 0) (old new : Option (List ℕ)) → Completes Serves kept said left read write old new NoMemory
  completes_memory said left read write old new = λ o s is given no_read no_write. inl refl

  -- what is said without the input
  pub answers_any : (asked : List ℕ → Request) (r : Request) (left : Option (List ℕ)) (read write : Type 0) (old new : Option (List ℕ)) (status : Status) → ((input : List ℕ) → asked input ≡ r) → Says Serves kept r ⊥ write old new status
      → Answers Serves kept asked left read write old new status
  answers_any asked r left read write old new status same h = let t = any_input left in (t.0, t.1, said Serves kept r (asked t.0) read write old new status (same t.0) h)

  pub answers_memory : (asked : List ℕ → Request) (left : Option (List ℕ)) (read write : Type 0) (old : Option (List ℕ)) → kept ≡ None → Answers Serves kept asked left read write old old NoMemory
  answers_memory asked left read write old none = let t = any_input left in (t.0, t.1, said_no_memory Serves kept (asked t.0) read write old none)

-- what words call for, by what they say
pub asks_generated : (said : Option Options) (o : Options) (number : ℕ) (input : List ℕ) → said ≡ Some o → o.generate ≡ Some number → request false said input ≡ accepted o.summary (generated number)
asks_generated said o number input is generate = ap (λ q. request false q input) is ∙ ap (λ g. request_of o.summary (script_for g input)) generate

pub asks_input : (said : Option Options) (o : Options) (input : List ℕ) → said ≡ Some o → o.generate ≡ None → request false said input ≡ request_of o.summary (script_of input)
asks_input said o input is generate = ap (λ q. request false q input) is ∙ ap (λ g. request_of o.summary (script_for g input)) generate

pub reads_as : (said : Option Options) (o : Options) (g : Option ℕ) → said ≡ Some o → o.generate ≡ g → reads_input said ≡ is_none g
reads_as said o g is generate = ap reads_input is ∙ ap is_none generate

pub taken_nothing : (a : Option (List ℕ)) → TakesAtMost 1048577 a a
taken_nothing None = ([], tt, omega arith)
taken_nothing (Some xs) = ([], refl, omega arith)

-- what the reads that went well took, and then one that failed
pub taken_before : (a b c : Option (List ℕ)) (v : List ℕ) → Consumes a b v → Keeps b c → length v ≤ 1048577 → TakesAtMost 1048577 a c
taken_before None b c v took kept most = (v, tt, most)
taken_before (Some xs) None c v took kept most = absurd took
taken_before (Some xs) (Some ys) None v took kept most = absurd kept
taken_before (Some xs) (Some ys) (Some zs) v took kept most = (v, took ∙ ap (λ r. v ++ r) (sym kept), most)

-- and then one more
pub taken_more : (a b c : Option (List ℕ)) (v w : List ℕ) → Consumes a b v → Consumes b c w → length v + length w ≤ 1048577 → TakesAtMost 1048577 a c
taken_more None b c v w took more most = (v, tt, omega arith)
taken_more (Some xs) None c v w took more most = absurd took
taken_more (Some xs) (Some ys) None v w took more most = absurd more
taken_more (Some xs) (Some ys) (Some zs) v w took more most = (v ++ w, took ∙ ap (λ r. v ++ r) more ∙ sym (append_assoc v w zs), rw (length-append v w) most)

-- where no read failed the status says so
pub never_read : {M : Type 0} (Serves : Service M) (kept : Option M) (r : Request) (write : Type 0) (old new : Option (List ℕ)) (s : Status) (before : ℕ) → Says Serves kept r ⊥ write old new s → read_faults s before ≡ before
never_read Serves kept r write old new ReadFault before h = absurd (no_fault r h)
  where
    no_fault : (q : Request) → Says Serves kept q ⊥ write old new ReadFault → ⊥
    no_fault helped h = h
    no_fault misused h = h
    no_fault (refused p) h = h.1
    no_fault (accepted summary p) h = h.1
never_read Serves kept r write old new Done before h = refl
never_read Serves kept r write old new Usage before h = refl
never_read Serves kept r write old new Refused before h = refl
never_read Serves kept r write old new WriteFault before h = refl
never_read Serves kept r write old new NoMemory before h = refl
