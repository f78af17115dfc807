-- What a course of a mutex states, and what its steps make of it.
use Rattle.std.specs.Prelude.{◌≡◌, ◌≢◌, ℕ, ◌<◌, ◌≤◌, ◌++◌, true, false, List, [], ◌∷◌, All, Contains, Option, Some, None, IsSome, length, slice_get, remove}
use Rattle.word_bits.specs.declared.TheConstants.{MAX_TASKS}
use Rattle.word_bits.specs.declared.owner.Owner.{Owner}
use Rattle.word_bits.specs.OwnerWord.{owner_word}
use Rattle.lock_decode.specs.Here.{IsMutexOwner}
use Rattle.lock_steps.specs.OwnerSteps.{flagless, with_waiters}
use Rattle.mutex_word.specs.declared.word_steps.Try.{Try}
use Rattle.mutex_word.specs.declared.word_steps.Try.TheVariants.{Take, Ask, Fail}
use Rattle.mutex_word.specs.Owners.{Mutex, Describes, States, ForOwner}
use Rattle.mutex_word.specs.OwnerWordSteps.{first_of, handoff_of}
use Rattle.lock_courses.specs.declared.refusal.Made.{Made}
use Rattle.lock_courses.specs.declared.refusal.Made.TheVariants.{Done, Fails}
use Rattle.lock_courses.specs.declared.refusal.Refusal.{Refusal}
use Rattle.lock_courses.specs.declared.refusal.Refusal.TheVariants.{Holds, HoldsNot, Waits, WaitsNot, NotFirst, Picked, NoHandoff, Full}
use Rattle.lock_courses.specs.declared.mutex.MutexCourse.{MutexCourse}

-- who holds, who is picked and who waits
abbrev pub mutex_of : MutexCourse → Mutex
mutex_of c = record { holder = c.holder; picked = c.picked; waiting = c.waiting.items }

-- the word states who holds, who is picked and who waits, and each that waits is a task
pub record IsStated (c : MutexCourse) : Type 0 where
  pub states : States c.word (mutex_of c)
  pub tasks : All (λ t. t < MAX_TASKS) c.waiting.items

-- the owner of the word
pub record SaysOwner (c : MutexCourse) (o : Owner) : Type 0 where
  pub can : IsMutexOwner o
  pub is : owner_word o ≡ c.word
  pub describes : Describes o (mutex_of c)

-- a try that answers this: who takes holds, and nobody is picked then; who asks changes the word alone
abbrev pub TriesTo : (old : MutexCourse) → (task : ℕ) → Made → (new : MutexCourse) → Try → Type 0
TriesTo old task made new (Take word) = (made ≡ Done) × (new ≡ record old { word = word; holder = Some task; picked = None; saw = false })
TriesTo old task made new (Ask word) = (made ≡ Done) × (new ≡ record old { word = word })
TriesTo old task made new Fail = (made ≡ Fails) × (new ≡ old)

-- a release that leaves this word, or none where it sees HANDOFF
abbrev pub ReleasesTo : (old : MutexCourse) → Made → (new : MutexCourse) → Option ℕ → Type 0
ReleasesTo old made new (Some word) = (made ≡ Done) × (new ≡ record old { word = word; holder = None; saw = false })
ReleasesTo old made new None = (made ≡ Fails) × (new ≡ record old { saw = true })

-- a handoff picks the first waiter, or nobody
abbrev pub HandsTo : (old new : MutexCourse) → Owner → Type 0
HandsTo old new o = let first = first_of old.waiting.items in new ≡ record old { word = handoff_of o first; holder = None; picked = first; saw = false }

-- the task is the last that waits, and WAITERS is set
pub record QueuesTo (old : MutexCourse) (task : ℕ) (new : MutexCourse) (o : Owner) : Type 0 where
  pub list : new.waiting.items ≡ old.waiting.items ++ task ∷ []
  pub word : new.word ≡ owner_word (with_waiters o)
  pub rest : new ≡ record old { word = new.word; waiting = new.waiting }

-- the word that a waiter leaves: without flags where nobody waits any more
abbrev pub word_left : Owner → List ℕ → ℕ
word_left o [] = owner_word (flagless o)
word_left o (t ∷ ts) = owner_word o

-- the task waits no longer, and the others stand in their order
pub record LeavesTo (old : MutexCourse) (task : ℕ) (new : MutexCourse) (o : Owner) : Type 0 where
  pub list : (k : ℕ) × (slice_get old.waiting.items k ≡ Some task) × (new.waiting.items ≡ remove old.waiting.items k)
  pub word : new.word ≡ word_left o new.waiting.items
  pub rest : new ≡ record old { word = new.word; waiting = new.waiting }

-- the task stands at some place of the list
abbrev pub IsAmong : List ℕ → ℕ → Type 0
IsAmong tasks task = (k : ℕ) × (slice_get tasks k ≡ Some task)

-- what a refusal says
abbrev pub BarsMutex : Refusal → MutexCourse → (task : ℕ) → Type 0
BarsMutex Holds c task = c.holder ≡ Some task
BarsMutex HoldsNot c task = c.holder ≢ Some task
BarsMutex Waits c task = IsAmong c.waiting.items task
BarsMutex WaitsNot c task = ¬ Contains c.waiting.items task
BarsMutex NotFirst c task = first_of c.waiting.items ≢ Some task
BarsMutex Picked c task = IsSome c.picked
BarsMutex NoHandoff c task = (c.saw ≡ false) × ForOwner c.word (λ o. o.handoff ≡ false)
BarsMutex Full c task = 40 ≤ length c.waiting.items
BarsMutex why c task = ⊥
