-- When a lock's word shows that a call can't have the lock.
use Rattle.std.specs.Prelude.{ℕ, ◌+◌, ◌*◌, ◌/◌, ◌%◌, ◌<◌, ◌≤◌, ◌≢◌, Bool, true, false}
use Rattle.word_bits.specs.declared.TheConstants.{MAX_TASKS}

-- Which words are unavailable for a call, of which it is told whether it reads.
abbrev pub Unavailable : Type 1
Unavailable = Bool → ℕ → Type 0

-- an owner word that names one of the tasks, whatever the call: the task's number plus 1 above three flags
abbrev pub owned : Unavailable
owned reads word = (8 ≤ word) × (word ≤ 8 * MAX_TASKS + 7)

-- a count word of a lawful count: the flags writer 1, waiters 2 and handoff 4, and from 256 on how many readers there are, at most one more than tasks
abbrev pub IsLawfulCount : ℕ → Type 0
IsLawfulCount word = (word % 256 < 8) × (word / 256 ≤ MAX_TASKS + 1)

-- a count with a flag is closed to a call that reads, and any but 0 to one that changes
abbrev pub counted : Unavailable
counted true word = IsLawfulCount word × (word % 8 ≢ 0)
counted false word = IsLawfulCount word × (word ≢ 0)
