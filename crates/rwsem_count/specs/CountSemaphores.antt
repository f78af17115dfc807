-- What a count word states.
use Rattle.std.specs.Prelude.{◌≡◌, ℕ, ◌+◌, ◌≤◌, Bool, true, false, List, [], ◌∷◌, length, is_some, Option}
use Rattle.word_bits.specs.declared.TheConstants.{MAX_TASKS}
use Rattle.rwsem_count.specs.Types.{Count}
use Rattle.word_bits.specs.CountWord.{IsCount, count_word}

-- who holds a semaphore, how many biases are in its count by which nobody holds, who waits in its list, and whether the first waiter is marked
pub record Semaphore : Type 0 where
  pub writer : Option ℕ
  pub readers : List ℕ
  pub biases : ℕ
  pub waiting : List ℕ
  pub marked : Bool

abbrev pub is_waited : List ℕ → Bool
is_waited [] = false
is_waited (task ∷ tasks) = true

-- What a count says of its semaphore while the list doesn't change. A writer has no reader beside it. HANDOFF is set only where somebody waits, and wherever the first waiter is marked.
pub record Describes (c : Count) (s : Semaphore) : Type 0 where
  pub writer : c.writer ≡ is_some s.writer
  pub apart : is_some s.writer ≡ true → s.readers ≡ []
  pub readers : c.readers ≡ length s.readers + s.biases
  pub few : length s.readers + s.biases ≤ MAX_TASKS + 1
  pub waiters : c.waiters ≡ is_waited s.waiting
  pub handoff : c.handoff ≡ true → is_waited s.waiting ≡ true
  pub marked : s.marked ≡ true → c.handoff ≡ true
  pub no_fail : c.read_fail ≡ false

-- the word is that of a count that says this
pub record States (word : ℕ) (s : Semaphore) : Type 0 where
  pub count : Count
  pub ranged : IsCount count
  pub is : count_word count ≡ word
  pub describes : Describes count s
