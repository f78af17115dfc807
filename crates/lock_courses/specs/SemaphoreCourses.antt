-- What a course of a semaphore states, and what its steps make of it.
use Rattle.std.specs.Prelude.{◌≡◌, ℕ, ◌+◌, ◌++◌, true, false, List, [], ◌∷◌, map, Some, None, is_some, length, slice_get, remove}
use Rattle.word_bits.specs.declared.count.Count.{Count}
use Rattle.word_bits.specs.OwnerWord.{bit}
use Rattle.word_bits.specs.CountWord.{IsCount, count_word}
use Rattle.wait_list.specs.declared.view.Waiter.{Waiter}
use Rattle.lock_decode.specs.Here.{IsSemaphoreCount}
use Rattle.rwsem_count.specs.CountSemaphores.{Semaphore, Describes, States}
use Rattle.rwsem_count.specs.CountWordSteps.{IsReadFree}
use Rattle.lock_steps.specs.CountSteps.{with_writer}
use Rattle.lock_courses.specs.declared.refusal.Made.{Made}
use Rattle.lock_courses.specs.declared.refusal.Made.TheVariants.{Done, Fails}
use Rattle.lock_courses.specs.declared.semaphore.SemaphoreCourse.{SemaphoreCourse}

abbrev pub waiter_task : Waiter → ℕ
waiter_task w = w.task

-- who holds, whose biases are counted beside them, and who waits
abbrev pub semaphore_of : SemaphoreCourse → Semaphore
semaphore_of c = record {
  writer = c.writer;
  readers = c.readers.items;
  biases = length c.transit.items + bit (is_some c.waker);
  waiting = map waiter_task c.waiting.items;
  marked = c.marked;
}

-- the word states all of that
pub record IsStated (c : SemaphoreCourse) : Type 0 where
  pub states : States c.word (semaphore_of c)

-- the count of the word
pub record SaysCount (c : SemaphoreCourse) (n : Count) : Type 0 where
  pub can : IsSemaphoreCount n
  pub is : count_word n ≡ c.word
  pub describes : Describes n (semaphore_of c)

-- the new word is that which a step makes of the count of the old
abbrev pub WordGoes : (Count → Count) → (old new : SemaphoreCourse) → Type 0
WordGoes step old new = (n : Count) → IsCount n → count_word n ≡ old.word → new.word ≡ count_word (step n)

-- the task stands no longer where it stood, and the others stand in their order
abbrev pub Removes : (old new : List ℕ) → (task : ℕ) → Type 0
Removes old new task = (k : ℕ) × (slice_get old k ≡ Some task) × (new ≡ remove old k)

-- a reader's bias lets it hold where the word lets readers in, and is in transit elsewhere
pub record AddsTo (old : SemaphoreCourse) (task : ℕ) (new : SemaphoreCourse) : Type 0 where
  pub word : new.word ≡ old.word + 256
  pub holds : IsReadFree old.word → (new.readers.items ≡ old.readers.items ++ task ∷ []) × (new ≡ record old { word = new.word; readers = new.readers })
  pub waits : (IsReadFree old.word → ⊥) → (new.transit.items ≡ old.transit.items ++ task ∷ []) × (new ≡ record old { word = new.word; transit = new.transit })

-- a reader in transit comes to hold
pub record HoldsTo (old : SemaphoreCourse) (task : ℕ) (new : SemaphoreCourse) : Type 0 where
  pub from : Removes old.transit.items new.transit.items task
  pub to : new.readers.items ≡ old.readers.items ++ task ∷ []
  pub rest : new ≡ record old { transit = new.transit; readers = new.readers }

-- a reader in transit takes its bias back
pub record BacksTo (old : SemaphoreCourse) (task : ℕ) (new : SemaphoreCourse) : Type 0 where
  pub from : Removes old.transit.items new.transit.items task
  pub rest : new ≡ record old { word = new.word; transit = new.transit }

-- a reader in transit waits
pub record QueuesReader (old : SemaphoreCourse) (task : ℕ) (new : SemaphoreCourse) : Type 0 where
  pub from : Removes old.transit.items new.transit.items task
  pub list : new.waiting.items ≡ old.waiting.items ++ record { task = task; writer = false } ∷ []
  pub rest : new ≡ record old { word = new.word; transit = new.transit; waiting = new.waiting }

-- a writer waits
pub record QueuesWriter (old : SemaphoreCourse) (task : ℕ) (new : SemaphoreCourse) : Type 0 where
  pub list : new.waiting.items ≡ old.waiting.items ++ record { task = task; writer = true } ∷ []
  pub rest : new ≡ record old { word = new.word; waiting = new.waiting }

-- a try of a writer: it holds, or nothing changes
abbrev pub TakesTo : (old : SemaphoreCourse) → (task : ℕ) → Made → (new : SemaphoreCourse) → Type 0
TakesTo old task Done new = WordGoes with_writer old new × (new ≡ record old { word = new.word; writer = Some task })
TakesTo old task Fails new = new ≡ old

-- a holder releases: a reader at some place, or the writer
pub record ReleasesReader (old : SemaphoreCourse) (task : ℕ) (new : SemaphoreCourse) : Type 0 where
  pub from : Removes old.readers.items new.readers.items task
  pub rest : new ≡ record old { word = new.word; readers = new.readers }

pub record ReleasesWriter (old : SemaphoreCourse) (task : ℕ) (new : SemaphoreCourse) : Type 0 where
  pub held : old.writer ≡ Some task
  pub rest : new ≡ record old { word = new.word; writer = None }

-- a writer holds shared from then on
pub record DowngradesTo (old : SemaphoreCourse) (task : ℕ) (new : SemaphoreCourse) : Type 0 where
  pub held : old.writer ≡ Some task
  pub to : new.readers.items ≡ old.readers.items ++ task ∷ []
  pub rest : new ≡ record old { word = new.word; writer = None; readers = new.readers }

-- a waker reserves a bias, and notes whether it found a writer
abbrev pub ReservesTo : (old : SemaphoreCourse) → (task : ℕ) → (new : SemaphoreCourse) → Type 0
ReservesTo old task new = (old.waker ≡ None) × (new ≡ record old { word = new.word; waker = Some task; late = new.late })

-- it gives the bias back
abbrev pub UnreservesTo : (old : SemaphoreCourse) → (task : ℕ) → (new : SemaphoreCourse) → Type 0
UnreservesTo old task new = (old.waker ≡ Some task) × (new ≡ record old { word = new.word; waker = None; marked = new.marked })
