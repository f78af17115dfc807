-- What a reader and a queued writer make of a count word.
use Rattle.std.specs.Prelude.{◌≡◌, ◌≢◌, ℕ, ◌+◌, ◌/◌, ◌%◌, ◌^◌, ◌<◌, ◌⊎◌, ◌++◌, ◌↔◌, Bool, true, false, List, [], ◌∷◌, Option, Some, None, length, if◌then◌else◌}
use Rattle.word_bits.specs.declared.TheConstants.{MAX_TASKS}
use Rattle.rwsem_count.specs.declared.word_steps.Write.{Write}
use Rattle.rwsem_count.specs.declared.word_steps.Write.TheVariants.{Take, Mark, Fail}
use Rattle.rwsem_count.specs.CountSemaphores.{Semaphore, States}

-- a reader may come in: neither a writer nor HANDOFF, nobody waits, and the highest bit doesn't say that there are too many
pub record IsReadFree (word : ℕ) : Type 0 where
  pub writer : word % 2 ≡ 0
  pub waiters : word / 2 % 2 ≡ 0
  pub handoff : word / 4 % 2 ≡ 0
  pub read_fail : word / 2 ^ 63 ≡ 0

-- the writer bit is set, or some reader is counted
abbrev pub IsLocked : ℕ → Type 0
IsLocked word = (word % 2 ≡ 1) ⊎ (word % 2 ^ 63 / 256 ≢ 0)

abbrev pub HasHandoff : ℕ → Type 0
HasHandoff word = word / 4 % 2 ≡ 1

-- it is to be handed to the first waiter, which is marked and is another
abbrev pub IsAnothers : (word : ℕ) (me_first first_marked : Bool) → Type 0
IsAnothers word me_first first_marked = HasHandoff word × (first_marked ≡ true) × (me_first ≡ false)

-- the flags WRITER, WAITERS and HANDOFF become these, and all else of the word stays
pub record HasFlags (old word writer waiters handoff : ℕ) : Type 0 where
  pub rest : word / 8 ≡ old / 8
  pub writer_is : word % 2 ≡ writer
  pub waiters_is : word / 2 % 2 ≡ waiters
  pub handoff_is : word / 4 % 2 ≡ handoff

-- When a queued writer's try gives which answer. It fails where the semaphore is another's, and where it is locked and the writer isn't overdue or HANDOFF is set already; where it is locked else, it
-- asks by HANDOFF; and where it is free, it takes it.
abbrev pub Writes : (word : ℕ) (me_first first_marked alone overdue : Bool) → Write → Type 0
Writes word me_first first_marked alone overdue Fail = IsAnothers word me_first first_marked ⊎ (IsLocked word × (HasHandoff word ⊎ (overdue ≡ false)))
Writes word me_first first_marked alone overdue (Mark new) = IsLocked word × (overdue ≡ true) × (HasHandoff word → ⊥) × HasFlags word new (word % 2) (word / 2 % 2) 1
Writes word me_first first_marked alone overdue (Take new) = (IsLocked word → ⊥) × (IsAnothers word me_first first_marked → ⊥) × HasFlags word new 1 (if alone then 0 else word / 2 % 2) 0

-- a word that lets a reader in goes on to state the semaphore when the reader's bias is added, where there is room for one more
abbrev pub LetsReadersIn : ℕ → Type 0
LetsReadersIn word = (s : Semaphore) (me : ℕ) → States word s → length s.readers + s.biases < MAX_TASKS + 1 → States (word + 256) (record s { readers = me ∷ s.readers })

abbrev pub first_of : List ℕ → Option ℕ
first_of [] = None
first_of (task ∷ tasks) = Some task

-- what a queued writer tells its try of the list: it stands in it between these others
pub record IsTold (s : Semaphore) (me : ℕ) (before after : List ℕ) (me_first first_marked alone : Bool) : Type 0 where
  pub there : s.waiting ≡ before ++ me ∷ after
  pub first : (me_first ≡ true) ↔ (before ≡ [])
  pub marked : first_marked ≡ s.marked
  pub only : (alone ≡ true) ↔ (before ++ after ≡ [])

-- A try of a word that states this, by a queued writer. Who takes writes from then on, and is to leave the list with its mark. Who asks has the first waiter marked.
abbrev pub WritesLawfully : Semaphore → (me : ℕ) (others : List ℕ) → Write → Type 0
WritesLawfully s me others (Take word) = States word (record s { writer = Some me; waiting = others; marked = false })
WritesLawfully s me others (Mark word) = States word (record s { marked = true })
WritesLawfully s me others Fail = Unit {0}
