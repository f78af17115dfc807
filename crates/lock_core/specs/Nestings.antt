-- What a pass notes of itself at the spin locks of its table.
use Rattle.std.specs.Prelude.{◌≡◌, ◌≢◌, ℕ, ◌+◌, ◌*◌, ◌<◌, Bool, true, false, replicate, slice_index_or}
use Rattle.lock_core.specs.declared.pass.Nesting.{Nesting}
use Rattle.lock_core.specs.Records.{bit}
use Rattle.lock_core.specs.LockHands.{point_at, depth_of}
use Rattle.lock_core.specs.Types.{Point, Out, Pending, Trying, Waiting, Head, Passing, Holding, SpinHand}

-- the pass holds the lock
abbrev pub is_held : Point → Bool
is_held Passing = true
is_held Holding = true
is_held _ = false

-- a call of the pass waits for the lock, or has it and waits for its successor
abbrev pub waits_at : Point → Bool
waits_at Out = false
waits_at Holding = false
waits_at _ = true

-- a call of the pass is in a loop in which it waits for the lock, or has it and waits for its successor
abbrev pub pauses_at : Point → Bool
pauses_at Pending = true
pauses_at Trying = true
pauses_at Waiting = true
pauses_at Head = true
pauses_at Passing = true
pauses_at _ = false

-- a bit for each of the locks of which this is so
abbrev pub mask_of : (ℕ → Bool) → ℕ
mask_of is = bit (is 0) + 2 * bit (is 1) + 4 * bit (is 2) + 8 * bit (is 3) + 16 * bit (is 4) + 32 * bit (is 5) + 64 * bit (is 6) + 128 * bit (is 7)

abbrev pub no_nesting : Nesting
no_nesting = record { holds = replicate 8 false; waits = replicate 8 false; depth = 0 }

-- it notes that it holds the lock, and that it waits for it
abbrev pub notes_held : ℕ → Nesting → Bool
notes_held l n = slice_index_or n.holds l false

abbrev pub notes_wait : ℕ → Nesting → Bool
notes_wait l n = slice_index_or n.waits l false

-- of each lock it notes the same
abbrev pub SameFlags : Nesting → Nesting → Type 0
SameFlags n n' = (m : ℕ) → m < 8 → (notes_held m n' ≡ notes_held m n) × (notes_wait m n' ≡ notes_wait m n)

-- of each but this one
abbrev pub SameFlagsBeside : ℕ → Nesting → Nesting → Type 0
SameFlagsBeside l n n' = (m : ℕ) → m < 8 → m ≢ l → (notes_held m n' ≡ notes_held m n) × (notes_wait m n' ≡ notes_wait m n)

-- what is noted of this lock is so
abbrev pub TellsAt : ℕ → Nesting → SpinHand → Type 0
TellsAt l n s = (notes_held l n ≡ is_held (point_at l s)) × (notes_wait l n ≡ waits_at (point_at l s))

-- so it is of the number of nodes and of each lock
pub record Tells (n : Nesting) (s : SpinHand) : Type 0 where
  pub depth : n.depth ≡ depth_of s
  pub at : (m : ℕ) → m < 8 → TellsAt m n s
