-- What is said of a machine holds where less is said of it.
use Rattle.std.proofs.Common.{◌≡◌, ℕ, Bool, List, Option, Some, None, ◌⊎◌, inl, inr}
use Rattle.std.specs.Io.KnownBytes.{Appends}
use Rattle.byte_streams.specs.Causes.{Fronts}
use Rattle.task_script.specs.Scripts.{Listing}
use Rattle.mm_report.specs.Results.{Told}
use Rattle.mm_program.specs.declared.options.Options.{Options}
use Rattle.mm_program.specs.declared.status.Status.{Status}
use Rattle.mm_program.specs.declared.status.Status.TheVariants.{Done, Usage, Refused, ReadFault, WriteFault, NoMemory}
use Rattle.mm_program.specs.Requests.{Request, helped, misused, refused, accepted}
use Rattle.mm_program.specs.Answers.{Service, Says, OfKept, Answers, Completes}

-- a machine that serves the one way serves the other way as what f makes of it
module _ {M N : Type 0} (Serves : Service M) (Less : Service N) (f : M → N) (weaker : (s : Listing) (told : List Told) (m : M) → Serves s told m → Less s told (f m)) (kept : Option M) (left : Option N) (none : kept ≡ None → left ≡ None) (some : (m : M) → kept ≡ Some m → left ≡ Some (f m)) where
  of_kept : (summary : Bool) (s : Listing) (P : List ℕ → Type 0) → OfKept Serves kept summary s P → OfKept Less left summary s P
  of_kept summary s P h = (f h.0, h.1, some h.0 h.2, weaker s h.1 h.0 h.3, h.4)

  says : (r : Request) (read write : Type 0) (old new : Option (List ℕ)) (status : Status) → Says Serves kept r read write old new status → Says Less left r read write old new status
  says helped read write old new Done h = (none h.0, h.1)
  says helped read write old new WriteFault h = (none h.0, h.1, h.2)
  says helped read write old new NoMemory h = (none h.0, h.1)
  says helped read write old new Usage h = h
  says helped read write old new Refused h = h
  says helped read write old new ReadFault h = h
  says misused read write old new Usage h = (none h.0, h.1)
  says misused read write old new WriteFault h = (none h.0, h.1, h.2)
  says misused read write old new NoMemory h = (none h.0, h.1)
  says misused read write old new Done h = h
  says misused read write old new Refused h = h
  says misused read write old new ReadFault h = h
  says (refused r) read write old new Refused h = (none h.0, h.1)
  says (refused r) read write old new ReadFault h = (none h.0, h.1, h.2)
  says (refused r) read write old new WriteFault h = (none h.0, h.1, h.2)
  says (refused r) read write old new NoMemory h = (none h.0, h.1)
  says (refused r) read write old new Done h = h
  says (refused r) read write old new Usage h = h
  says (accepted summary s) read write old new Done h = of_kept summary s (Appends old new) h
  says (accepted summary s) read write old new ReadFault h = (none h.0, h.1, h.2)
  says (accepted summary s) read write old new WriteFault h = (h.0, of_kept summary s (Fronts old new) h.1)
  says (accepted summary s) read write old new NoMemory h = (none h.0, h.1)
  says (accepted summary s) read write old new Usage h = h
  says (accepted summary s) read write old new Refused h = h

  pub answers-weaker : (calls_for : List ℕ → Request) (source : Option (List ℕ)) (read write : Type 0) (old new : Option (List ℕ)) (status : Status) → Answers Serves kept calls_for source read write old new status
      → Answers Less left calls_for source read write old new status
  answers-weaker calls_for source read write old new status answer = (answer.0, answer.1, says (calls_for answer.0) read write old new status answer.2)

  pub completes-weaker : (said : Option Options) (source : Option (List ℕ)) (read write : Type 0) (old new : Option (List ℕ)) (status : Status) → Completes Serves kept said source read write old new status
      → Completes Less left said source read write old new status
  completes-weaker said source read write old new status complete = λ o s is given no_read no_write. more o s (complete o s is given no_read no_write)
    where
      more : (o : Options) (s : Listing) → (status ≡ NoMemory) ⊎ ((status ≡ Done) × OfKept Serves kept o.summary s (Appends old new)) → (status ≡ NoMemory) ⊎ ((status ≡ Done) × OfKept Less left o.summary s (Appends old new))
      more o s (inl none) = inl none
      more o s (inr h) = inr (h.0, of_kept o.summary s (Appends old new) h.1)
