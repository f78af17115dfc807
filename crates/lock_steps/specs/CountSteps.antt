-- What the steps make of a count.
use Rattle.std.specs.Prelude.{◌≡◌, ℕ, ◌+◌, ◌-◌, ◌<◌, ◌≤◌, ◌||◌, Bool, true, false, if◌then◌else◌}
use Rattle.word_bits.specs.declared.TheConstants.{MAX_TASKS}
use Rattle.word_bits.specs.declared.count.Count.{Count}
use Rattle.word_bits.specs.OwnerWord.{bit}

-- no lock bit: no writer and no bias
pub record IsUnlocked (c : Count) : Type 0 where
  pub writer : c.writer ≡ false
  pub readers : c.readers ≡ 0

-- no lock bit and no flag
pub record IsOpen (c : Count) : Type 0 where
  pub unlocked : IsUnlocked c
  pub waiters : c.waiters ≡ false
  pub handoff : c.handoff ≡ false

abbrev pub biased : Count → Count
biased c = record c { readers = c.readers + 1 }

abbrev pub unbiased : Count → Count
unbiased c = record c { readers = c.readers - 1 }

abbrev pub with_waiters : Count → Count
with_waiters c = record c { waiters = true }

-- a bias less, and WAITERS for the first waiter
abbrev pub queued_back : Count → (alone : Bool) → Count
queued_back c alone = record c { readers = c.readers - 1; waiters = c.waiters || alone }

abbrev pub with_writer : Count → Count
with_writer c = record c { writer = true }

abbrev pub without_writer : Count → Count
without_writer c = record c { writer = false }

abbrev pub flagless : Count → Count
flagless c = record c { waiters = false; handoff = false }

-- HANDOFF where the first waiter is marked
abbrev pub asked_by : Count → (marks : Bool) → Count
asked_by c marks = record c { handoff = c.handoff || marks }

-- a writer's hold becomes a reader's
abbrev pub downgraded : Count → Count
downgraded c = record c { writer = false; readers = c.readers + 1 }

-- tasks wait, some are granted, the waker's own bias is counted, and none is too many
pub record CanBatch (c : Count) (readers : ℕ) (reserved : Bool) : Type 0 where
  pub waiters : c.waiters ≡ true
  pub some : 0 < readers
  pub own : bit reserved ≤ c.readers
  pub few : c.readers - bit reserved + readers ≤ MAX_TASKS + 1

-- a bias for each granted reader in place of the waker's own, no HANDOFF, and WAITERS where others wait
abbrev pub batched : Count → (readers : ℕ) → (reserved empty : Bool) → Count
batched c readers reserved empty = record c { readers = c.readers - bit reserved + readers; handoff = false; waiters = if empty then false else true }
