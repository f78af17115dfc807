-- What each step of the slow path makes of the spin part of a view, by the word that it found. `l` is the lock.
use Rattle.std.specs.Prelude.{ℕ, ◌+◌, ◌%◌, ◌==◌, Option, Some, None, if◌then◌else◌, nat_lt}
use Rattle.qspin_queue.specs.Types.{View, SpinHand, LockHand, Frame, Point, Clearing, Cleared, Linking, Waiting, Head, Ready, Passing, Holding}
use Rattle.lock_core.specs.LockHands.{frame_at, depth_of}
use Rattle.lock_core.specs.Spins.{tail_in, node_code}
use Rattle.qspin_word.specs.SpinWordHands.{framed, went, took_at}

-- a node of which nothing is known
abbrev pub node_at : Point → ℕ → Frame
node_at p code = record { point = p; code = code; found = 0; next = 0 }

-- the code of a task's node of this number
abbrev pub code_for : Option ℕ → ℕ → ℕ
code_for None i = 0
code_for (Some t) i = node_code t i

-- it is the head, and has seen no successor
abbrev pub as_head : Frame → Frame
as_head f = record f { point = Head; next = 0 }

-- it has seen this successor, or none
abbrev pub learning : Point → ℕ → Frame → Frame
learning p n f = record f { point = p; next = n }

-- what a pass has to do with a lock, with another frame
abbrev pub lock_hand_with : Frame → LockHand → LockHand
lock_hand_with f b = record b { frame = f }

-- the frame of a node that entered the queue where the word was this
abbrev pub entered : ℕ → Frame → Frame
entered n f = if nat_lt n 512 then record f { point = Head; found = 0; next = 0 } else record f { point = Linking; found = tail_in n }

module _ {E : Type 0} (l : ℕ) where
  -- a compare-exchange from 0 to 1, of which a miss isn't kept
  abbrev pub retried : ℕ → View E → SpinHand
  retried n v = if n == 0 then took_at l v.spin (v.steps + 1) Holding else v.spin

  -- `locked` of the next node of its task is cleared
  abbrev pub cleared_locked : View E → SpinHand
  cleared_locked v = framed l v.spin (node_at Clearing (code_for v.hand.task (depth_of v.spin)))

  -- `next` of its node is cleared
  abbrev pub cleared_next : View E → SpinHand
  cleared_next v = went l v.spin Cleared

  -- the exchange of the tail, from the word that it saw: where it finds no tail it is the head, else it has a predecessor
  abbrev pub queued : ℕ → ℕ → View E → SpinHand
  queued from n v = if n == from then (if nat_lt n 512 then framed l v.spin (record (frame_at l v.spin) { point = Head; found = 0; next = 0 }) else framed l v.spin
      (record (frame_at l v.spin) { point = Linking; found = tail_in n })) else v.spin

  -- its predecessor is told its code
  abbrev pub linked : View E → SpinHand
  linked v = went l v.spin Waiting

  -- a load of its own `locked`
  abbrev pub heard : ℕ → View E → SpinHand
  heard n v = if n == 1 then framed l v.spin (as_head (frame_at l v.spin)) else v.spin

  -- a load of its own `next`
  abbrev pub learnt : Point → ℕ → View E → SpinHand
  learnt p n v = framed l v.spin (record (frame_at l v.spin) { point = p; next = n })

  -- a load of the word by the head
  abbrev pub readied : ℕ → View E → SpinHand
  readied n v = if n % 512 == 0 then went l v.spin Ready else v.spin

  -- the exchange of the word with its own tail alone for 1
  abbrev pub took_last : ℕ → ℕ → View E → SpinHand
  took_last from n v = if n == from then took_at l v.spin (v.steps + 1) Holding else v.spin

  -- the head takes the lock, and others stand behind it
  abbrev pub took_head : View E → SpinHand
  took_head v = took_at l v.spin (v.steps + 1) Passing

  -- its successor is the head
  abbrev pub passed : View E → SpinHand
  passed v = went l v.spin Holding
