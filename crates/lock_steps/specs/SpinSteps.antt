-- What the steps make of a spin lock's word.
use Rattle.std.specs.Prelude.{◌≡◌, true, false, Some, None, IsSome}
use Rattle.word_bits.specs.declared.spin.Spin.{Spin}
use Rattle.word_bits.specs.declared.spin.Tail.{Tail}
use Rattle.lock_steps.specs.declared.spin.Pending.{Pending}
use Rattle.lock_steps.specs.declared.spin.Pending.TheVariants.{Owns, Undoes, Queues}

-- neither the locked byte nor the pending bit
pub record IsClear (s : Spin) : Type 0 where
  pub locked : s.locked ≡ false
  pub pending : s.pending ≡ false

abbrev pub locked_by : Spin → Spin
locked_by s = record s { locked = true }

abbrev pub without_lock : Spin → Spin
without_lock s = record s { locked = false }

abbrev pub with_pending : Spin → Spin
with_pending s = record s { pending = true }

abbrev pub without_pending : Spin → Spin
without_pending s = record s { pending = false }

abbrev pub taken_by_pending : Spin → Spin
taken_by_pending s = record s { locked = true; pending = false }

abbrev pub with_tail : Spin → Tail → Spin
with_tail s node = record s { tail = Some node }

abbrev pub taken_alone : Spin
taken_alone = record { locked = true; pending = false; tail = None }

-- what who sets the pending bit has seen of bit and tail
abbrev pub SeesPending : Spin → Pending → Type 0
SeesPending s Owns = (s.pending ≡ false) × (s.tail ≡ None)
SeesPending s Undoes = (s.pending ≡ false) × IsSome s.tail
SeesPending s Queues = s.pending ≡ true
