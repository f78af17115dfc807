-- Which owners and counts the unavailable words are the words of.
use Rattle.std.specs.Prelude.{◌≡◌, ◌↔◌, ℕ, ◌+◌, ◌<◌, ◌≤◌, ◌||◌, ◌⊎◌, Bool, true, false, IsTrue, IsSome}
use Rattle.word_bits.specs.declared.count.Count.{Count}
use Rattle.word_bits.specs.declared.owner.Owner.{Owner}
use Rattle.word_bits.specs.declared.TheConstants.{MAX_TASKS}
use Rattle.word_bits.specs.CountWord.{count_word}
use Rattle.word_bits.specs.LockWords.{owned, counted}
use Rattle.word_bits.specs.OwnerWord.{IsOwner, owner_word}

-- the word of an owner that names a task
pub record IsOwnedWord (word : ℕ) : Type 0 where
  pub owner : Owner
  pub fits : IsOwner owner
  pub names : IsSome owner.task
  pub packs : owner_word owner ≡ word

-- no more readers than tasks and one that leaves again, and never too many
pub record IsLawful (c : Count) : Type 0 where
  pub readers : c.readers ≤ MAX_TASKS + 1
  pub read_fail : c.read_fail ≡ false

abbrev pub has_flag : Count → Bool
has_flag c = c.writer || c.waiters || c.handoff

-- a flag closes the count to a call that reads, and a flag or a reader to one that changes
abbrev pub IsClosed : (reads : Bool) → Count → Type 0
IsClosed true c = IsTrue (has_flag c)
IsClosed false c = IsTrue (has_flag c) ⊎ (0 < c.readers)

-- the word of a lawful count that is closed to the call
pub record IsCountedWord (reads : Bool) (word : ℕ) : Type 0 where
  pub count : Count
  pub lawful : IsLawful count
  pub closed : IsClosed reads count
  pub packs : count_word count ≡ word

-- exactly the words of owners that name a task are owned
abbrev pub OwnedNamesTask : Type 0
OwnedNamesTask = (reads : Bool) (word : ℕ) → owned reads word ↔ IsOwnedWord word

-- exactly the words of lawful counts that are closed to the call are counted
abbrev pub CountedIsClosed : Type 0
CountedIsClosed = (reads : Bool) (word : ℕ) → counted reads word ↔ IsCountedWord reads word
