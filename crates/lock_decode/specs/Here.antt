-- What the words of the locks here can be.
use Rattle.std.specs.Prelude.{◌≡◌, ◌≢◌, ℕ, ◌+◌, ◌/◌, ◌%◌, ◌^◌, ◌<◌, ◌≤◌, ◌⊎◌, true, false, is_some, Option, IfSome}
use Rattle.word_bits.specs.declared.TheConstants.{MAX_TASKS}
use Rattle.word_bits.specs.declared.owner.Owner.{Owner}
use Rattle.word_bits.specs.declared.count.Count.{Count}
use Rattle.word_bits.specs.declared.spin.Spin.{Spin}
use Rattle.word_bits.specs.declared.spin.Tail.{Tail}
use Rattle.word_bits.specs.OwnerWord.{IsOwner, owner_word}
use Rattle.lock_decode.specs.declared.why.Why.{Why}
use Rattle.lock_decode.specs.declared.why.Why.TheVariants.{UnusedBit, NoSuchTask, FlagWithoutWaiters, ReadFail, TooManyReaders, NodeOfNoCpu}
use Rattle.lock_decode.specs.Flags.{AreFlags, BreaksFlags}

-- a task that may be, and flags that go together
pub record IsMutexOwner (o : Owner) : Type 0 where
  pub ranged : IsOwner o
  pub flags : AreFlags (is_some o.task) o.waiters o.handoff o.pickup

-- the task is none, or the flags of the word's owner don't go together
abbrev pub OwnerFault : Why → ℕ → Type 0
OwnerFault NoSuchTask word = MAX_TASKS < word / 8
OwnerFault why word = (o : Owner) × (owner_word o ≡ word) × BreaksFlags why (is_some o.task) o.waiters o.handoff o.pickup

-- no more biases than one for each task and one for a waker, HANDOFF only beside WAITERS, and never the highest bit
pub record IsSemaphoreCount (c : Count) : Type 0 where
  pub few : c.readers ≤ MAX_TASKS + 1
  pub asks : c.handoff ≡ true → c.waiters ≡ true
  pub no_fail : c.read_fail ≡ false

abbrev pub CountFault : Why → ℕ → Type 0
CountFault UnusedBit word = word / 8 % 2 ^ 5 ≢ 0
CountFault ReadFail word = word / 2 ^ 63 % 2 ≡ 1
CountFault TooManyReaders word = MAX_TASKS + 1 < word / 2 ^ 8 % 2 ^ 55
CountFault FlagWithoutWaiters word = (word / 4 % 2 ≡ 1) × (word / 2 % 2 ≡ 0)
CountFault why word = ⊥

-- one of four nodes of a task's CPU
pub record IsTaskNode (t : Tail) : Type 0 where
  pub cpu : t.cpu < MAX_TASKS
  pub index : t.index < 4

abbrev pub IsLockSpin : Spin → Type 0
IsLockSpin s = IfSome s.tail IsTaskNode

abbrev pub SpinFault : Why → ℕ → Type 0
SpinFault UnusedBit word = (2 ^ 32 ≤ word) ⊎ (word / 2 % 2 ^ 7 ≢ 0)
SpinFault NodeOfNoCpu word = (0 < word / 512) × (word / 512 < 4)
SpinFault NoSuchTask word = MAX_TASKS < word / 2 ^ 11
SpinFault why word = ⊥

abbrev pub IsTask : Option ℕ → Type 0
IsTask task = IfSome task (λ t. t < MAX_TASKS)

-- a code that is too large
abbrev pub CodeFault : (limit : ℕ) → Why → ℕ → Type 0
CodeFault limit NoSuchTask word = limit < word
CodeFault limit why word = ⊥
