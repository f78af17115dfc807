-- Passes at a spin lock: what each counts for.
use Rattle.std.specs.Prelude.{ℕ, ◌+◌, ◌==◌, Bool, true, false, List}
use Rattle.lock_core.specs.Records.{bit}
use Rattle.lock_core.specs.Totals.{total}
use Rattle.lock_core.specs.Types.{Frame, Point, Undoing, Pending, Taking, Clearing, Cleared, Linking, Waiting, Head, Ready, Passing, Holding}

-- the number, or 0 where the test fails
abbrev pub when : Bool → ℕ → ℕ
when true n = n
when false n = 0

-- it holds the lock
abbrev pub holds_at : Point → ℕ
holds_at Passing = 1
holds_at Holding = 1
holds_at _ = 0

-- it owns the pending bit, and has seen the locked byte 0
abbrev pub takes_at : Point → ℕ
takes_at Taking = 1
takes_at _ = 0

-- it is the head, and has seen the locked byte and the pending bit 0
abbrev pub ready_at : Point → ℕ
ready_at Ready = 1
ready_at _ = 0

-- it owns the pending bit, and waits for the locked byte
abbrev pub pends_at : Point → ℕ
pends_at Pending = 1
pends_at _ = 0

-- it owns the pending bit, and is to clear it
abbrev pub undoes_at : Point → ℕ
undoes_at Undoing = 1
undoes_at _ = 0

-- it owns the pending bit
abbrev pub owns_at : Point → ℕ
owns_at p = undoes_at p + pends_at p + takes_at p

-- its node stands in the queue
abbrev pub stands : Point → Bool
stands Linking = true
stands Waiting = true
stands Head = true
stands Ready = true
stands Passing = true
stands _ = false

-- it is the head of the queue: it waits for the locked byte and the pending bit, has seen both 0, or is to tell the next node
abbrev pub is_head : Point → Bool
is_head Head = true
is_head Ready = true
is_head Passing = true
is_head _ = false

-- its node isn't free for another call
abbrev pub uses : Point → Bool
uses Clearing = true
uses Cleared = true
uses Linking = true
uses Waiting = true
uses Head = true
uses Ready = true
uses Passing = true
uses _ = false

-- 1 where this is the code
abbrev pub code_is : ℕ → ℕ → ℕ
code_is c x = bit (x == c)

abbrev pub holds_of : Frame → ℕ
holds_of f = holds_at f.point

abbrev pub takes_of : Frame → ℕ
takes_of f = takes_at f.point

abbrev pub ready_of : Frame → ℕ
ready_of f = ready_at f.point

abbrev pub pends_of : Frame → ℕ
pends_of f = pends_at f.point

abbrev pub undoes_of : Frame → ℕ
undoes_of f = undoes_at f.point

-- its node is the one of this code, and stands in the queue, or is in use
abbrev pub stands_as : ℕ → Frame → ℕ
stands_as c f = when (stands f.point) (code_is c f.code)

abbrev pub uses_as : ℕ → Frame → ℕ
uses_as c f = when (uses f.point) (code_is c f.code)

-- how many frames are at each kind of point
pub record Counts : Type 0 where
  pub holds : ℕ
  pub takes : ℕ
  pub ready : ℕ
  pub pends : ℕ
  pub undoes : ℕ

abbrev pub counts : List Frame → Counts
counts fs = record { holds = total holds_of fs; takes = total takes_of fs; ready = total ready_of fs; pends = total pends_of fs; undoes = total undoes_of fs }
