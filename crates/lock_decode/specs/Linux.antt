-- What the words of Linux 6.6's locks can be, on 64 bits.
use Rattle.std.specs.Prelude.{◌≡◌, ◌≢◌, ℕ, ◌+◌, ◌-◌, ◌*◌, ◌/◌, ◌%◌, ◌^◌, ◌<◌, ◌≤◌, Bool, true, is_some, Option, Some, None, IfSome}
use Rattle.word_bits.specs.declared.count.Count.{Count}
use Rattle.word_bits.specs.declared.spin.Spin.{Spin}
use Rattle.word_bits.specs.declared.spin.Tail.{Tail}
use Rattle.word_bits.specs.OwnerWord.{bit}
use Rattle.word_bits.specs.CountWord.{IsCount}
use Rattle.word_bits.specs.SpinWord.{tail_code}
use Rattle.lock_decode.specs.declared.linux.LinuxOwner.{LinuxOwner}
use Rattle.lock_decode.specs.declared.why.Why.{Why}
use Rattle.lock_decode.specs.declared.why.Why.TheVariants.{UnusedBit, FlagWithoutWaiters, NodeOfNoCpu, LockedByte, PendingByte}
use Rattle.lock_decode.specs.Flags.{AreFlags, BreaksFlags}

-- an address of a task_struct, whose last three bits are 0
pub record IsAddress (a : ℕ) : Type 0 where
  pub some : a ≢ 0
  pub aligned : a % 8 ≡ 0
  pub fits : a < 2 ^ 64

abbrev pub address_word : Option ℕ → ℕ
address_word None = 0
address_word (Some a) = a

-- the address above three flags: MUTEX_FLAG_WAITERS 1, MUTEX_FLAG_HANDOFF 2, MUTEX_FLAG_PICKUP 4
abbrev pub linux_owner_word : LinuxOwner → ℕ
linux_owner_word o = bit o.waiters + bit o.handoff * 2 + bit o.pickup * 4 + address_word o.task

abbrev pub HasAddress : LinuxOwner → Type 0
HasAddress o = IfSome o.task IsAddress

pub record IsLinuxOwner (o : LinuxOwner) : Type 0 where
  pub ranged : HasAddress o
  pub flags : AreFlags (is_some o.task) o.waiters o.handoff o.pickup

abbrev pub LinuxOwnerFault : Why → ℕ → Type 0
LinuxOwnerFault why word = (o : LinuxOwner) × (linux_owner_word o ≡ word) × BreaksFlags why (is_some o.task) o.waiters o.handoff o.pickup

-- HANDOFF only beside WAITERS
pub record IsLinuxCount (c : Count) : Type 0 where
  pub ranged : IsCount c
  pub asks : c.handoff ≡ true → c.waiters ≡ true

abbrev pub LinuxCountFault : Why → ℕ → Type 0
LinuxCountFault UnusedBit word = word / 8 % 2 ^ 5 ≢ 0
LinuxCountFault FlagWithoutWaiters word = (word / 4 % 2 ≡ 1) × (word / 2 % 2 ≡ 0)
LinuxCountFault why word = ⊥

-- one of four nodes of a CPU below 16,383
pub record IsNarrowTail (t : Tail) : Type 0 where
  pub cpu : t.cpu < 2 ^ 14 - 1
  pub index : t.index < 4

abbrev pub IsNarrowSpin : Spin → Type 0
IsNarrowSpin s = IfSome s.tail IsNarrowTail

-- with fewer than 16,384 CPUs: the locked byte, a pending byte, and the tail in 16 bits
abbrev pub narrow_spin_word : Spin → ℕ
narrow_spin_word s = bit s.locked + bit s.pending * 2 ^ 8 + tail_code s.tail * 2 ^ 16

abbrev pub NarrowSpinFault : Why → ℕ → Type 0
NarrowSpinFault UnusedBit word = 2 ^ 32 ≤ word
NarrowSpinFault LockedByte word = 1 < word % 2 ^ 8
NarrowSpinFault PendingByte word = 1 < word / 2 ^ 8 % 2 ^ 8
NarrowSpinFault NodeOfNoCpu word = (0 < word / 2 ^ 16) × (word / 2 ^ 16 < 4)
NarrowSpinFault why word = ⊥

-- with 16,384 CPUs and more: the locked byte, one pending bit, and the tail in 23 bits
abbrev pub WideSpinFault : Why → ℕ → Type 0
WideSpinFault UnusedBit word = 2 ^ 32 ≤ word
WideSpinFault LockedByte word = 1 < word % 2 ^ 8
WideSpinFault NodeOfNoCpu word = (0 < word / 2 ^ 9) × (word / 2 ^ 9 < 4)
WideSpinFault why word = ⊥

-- whether a writer blocks
abbrev pub BlockFault : Why → ℕ → Type 0
BlockFault UnusedBit word = 1 < word
BlockFault why word = ⊥

abbrev pub Anything : Bool → Type 0
Anything b = Unit {0}
