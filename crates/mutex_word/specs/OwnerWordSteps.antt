-- The steps on an owner word.
use Rattle.std.specs.Prelude.{ℕ, ◌==◌, Bool, true, false, List, [], ◌∷◌, Contains, Option, Some, None, if◌then◌else◌}
use Rattle.word_bits.specs.OwnerWord.{owner_word}
use Rattle.mutex_word.specs.declared.word_steps.Try.{Try}
use Rattle.mutex_word.specs.declared.word_steps.Try.TheVariants.{Take, Ask, Fail}
use Rattle.mutex_word.specs.Owners.{Mutex, States}
use Rattle.mutex_word.specs.Types.{Owner}

-- what a try by this task makes of a word that names a task: pickup, ask, handoff
abbrev pub try_named : Owner → (mine ask : Bool) → Try
try_named o mine ask = go o.pickup mine ask o.handoff
  where
    go : (pickup mine ask handoff : Bool) → Try
    go true true ask handoff = Take (owner_word (record o { pickup = false }))
    go true false ask handoff = Fail
    go false mine true false = Ask (owner_word (record o { handoff = true }))
    go false mine true true = Fail
    go false mine false handoff = Fail

-- what a try by this task makes of a word
abbrev pub try_of : Owner → (me : ℕ) → (ask : Bool) → Try
try_of o me ask = go o.task
  where
    go : Option ℕ → Try
    go None = Take (owner_word (record o { task = Some me }))
    go (Some task) = try_named o (task == me) ask

-- a release leaves the flags alone, unless a handoff is asked for
abbrev pub release_of : Owner → Option ℕ
release_of o = if o.handoff then None else Some (owner_word (record o { task = None }))

-- a handover picks the first waiter, if there is one, and keeps the flag of the waiters
abbrev pub handoff_of : Owner → Option ℕ → ℕ
handoff_of o None = owner_word (record { task = None; waiters = o.waiters; handoff = false; pickup = false })
handoff_of o (Some first) = owner_word (record { task = Some first; waiters = o.waiters; handoff = false; pickup = true })

abbrev pub first_of : List ℕ → Option ℕ
first_of [] = None
first_of (task ∷ tasks) = Some task

-- A try of a word that states this: who takes holds from then on; who asks waits in the list, and changes neither holder nor picked task.
abbrev pub TriesLawfully : Mutex → (me : ℕ) → Try → Type 0
TriesLawfully m me (Take word) = States word (record m { holder = Some me; picked = None })
TriesLawfully m me (Ask word) = Contains m.waiting me → States word m
TriesLawfully m me Fail = Unit {0}

-- the word that a holder's release leaves, if it leaves one
abbrev pub ReleasesLawfully : Mutex → Option ℕ → Type 0
ReleasesLawfully m None = Unit {0}
ReleasesLawfully m (Some word) = States word (record m { holder = None })

-- the word that a holder leaves which picks this task, or nobody
abbrev pub HandsOverLawfully : Mutex → Option ℕ → ℕ → Type 0
HandsOverLawfully m first word = States word (record m { holder = None; picked = first })
