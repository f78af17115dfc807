-- What each step on a spin word makes of the spin part of a view, by the word that it found. `l` is the lock.
use Rattle.std.specs.Prelude.{ℕ, ◌+◌, ◌==◌, Some, if◌then◌else◌, nat_lt}
use Rattle.qspin_word.specs.Types.{View, SpinHand, LockHand, Frame, Point, Out, Undoing, Pending, Taking, Trying, Holding}
use Rattle.lock_core.specs.LockHands.{lock_hand_at, frame_at, point_at, with_lock_hand}
use Rattle.lock_core.specs.Spins.{pending_in, byte_in}

abbrev pub at_point : Frame → Point → Frame
at_point f p = record f { point = p }

abbrev pub framed : ℕ → SpinHand → Frame → SpinHand
framed l s f = with_lock_hand l s (record (lock_hand_at l s) { frame = f })

-- it goes on to another point
abbrev pub went : ℕ → SpinHand → Point → SpinHand
went l s p = framed l s (at_point (frame_at l s) p)

-- what it has to do with the lock that it takes, at the step of this number
abbrev pub taken : ℕ → SpinHand → ℕ → Point → LockHand
taken l s step to = record { frame = at_point (frame_at l s) to; took = step; from = point_at l s }

-- it takes the lock
abbrev pub took_at : ℕ → SpinHand → ℕ → Point → SpinHand
took_at l s step to = record (with_lock_hand l s (taken l s step to)) { entries = s.entries + 1 }

-- it saw this word, at the step of this number
abbrev pub saw_word : SpinHand → ℕ → ℕ → SpinHand
saw_word s word step = record s { saw = Some (record { word = word; step = step }) }

module _ {E : Type 0} (l : ℕ) where
  -- a compare-exchange from 0 to 1
  abbrev pub tried : ℕ → View E → SpinHand
  tried n v = if n == 0 then took_at l v.spin (v.steps + 1) Holding else saw_word v.spin n (v.steps + 1)

  -- a load before one: a word that isn't 0 is kept
  abbrev pub looked : ℕ → View E → SpinHand
  looked n v = if n == 0 then v.spin else saw_word v.spin n (v.steps + 1)

  -- a load by a pass that waits without a node, and a compare-exchange from 0 to 1 behind it
  abbrev pub sought : View E → SpinHand
  sought v = went l v.spin Trying

  abbrev pub grabbed : ℕ → View E → SpinHand
  grabbed n v = if n == 0 then took_at l v.spin (v.steps + 1) Holding else v.spin

  -- the locked byte is cleared
  abbrev pub freed : View E → SpinHand
  freed v = went l v.spin Out

  -- the pending bit is set: with neither tail nor pending in the word before, the pass owns it; with a tail alone, it is to clear it
  abbrev pub pended : ℕ → View E → SpinHand
  pended n v = if nat_lt n 256 then went l v.spin Pending else if pending_in n == 0 then saw_word (went l v.spin Undoing) n (v.steps + 1) else saw_word v.spin n (v.steps + 1)

  -- the pending bit is cleared by the pass that set it to no avail
  abbrev pub undone : View E → SpinHand
  undone v = went l v.spin Out

  -- a load by the owner of the pending bit
  abbrev pub awaited : ℕ → View E → SpinHand
  awaited n v = if byte_in n == 0 then went l v.spin Taking else v.spin

  -- the owner of the pending bit takes the lock
  abbrev pub turned : View E → SpinHand
  turned v = took_at l v.spin (v.steps + 1) Holding
