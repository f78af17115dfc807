-- What a course of a queued spin lock states, and what its steps make of it.
use Rattle.std.specs.Prelude.{◌≡◌, ℕ, true, false, List, [], ◌∷◌, Option, Some, None, is_some}
use Rattle.word_bits.specs.declared.spin.Tail.{Tail}
use Rattle.lock_decode.specs.Here.{IsLockSpin}
use Rattle.lock_steps.specs.SpinSteps.{IsClear, locked_by, taken_by_pending, with_pending}
use Rattle.lock_courses.specs.declared.refusal.Made.{Made}
use Rattle.lock_courses.specs.declared.refusal.Made.TheVariants.{Done, Fails}
use Rattle.lock_courses.specs.declared.spin.SpinCourse.{SpinCourse}

-- the first node of the task's CPU
abbrev pub node_of : ℕ → Tail
node_of task = record { cpu = task; index = 0 }

-- the node of the last in the queue
abbrev pub last_node : List ℕ → Option Tail
last_node [] = None
last_node (t ∷ []) = Some (node_of t)
last_node (t ∷ u ∷ us) = last_node (u ∷ us)

-- the word has the locked byte where a task holds, the pending bit where a task owns it, and the last of the queue
pub record IsStated (c : SpinCourse) : Type 0 where
  pub can : IsLockSpin c.spin
  pub locked : c.spin.locked ≡ is_some c.holder
  pub pending : c.spin.pending ≡ is_some c.owner
  pub tail : c.spin.tail ≡ last_node c.queue.items

-- a try: it holds, or nothing changes
abbrev pub TakesTo : (old : SpinCourse) → (task : ℕ) → Made → (new : SpinCourse) → Type 0
TakesTo old task Done new = IsClear old.spin × (old.spin.tail ≡ None) × (new ≡ record old { spin = locked_by old.spin; holder = Some task })
TakesTo old task Fails new = new ≡ old

-- the task owns the pending bit, and is to clear it where it saw a tail; or the bit was set, and stays so
abbrev pub PendsTo : (old : SpinCourse) → (task : ℕ) → Made → (new : SpinCourse) → Type 0
PendsTo old task Done new = (old.spin.pending ≡ false) × (new ≡ record old { spin = with_pending old.spin; owner = Some task; undoes = is_some old.spin.tail })
PendsTo old task Fails new = (old.spin.pending ≡ true) × (new ≡ old)

-- the owner of the bit holds, or somebody holds still
abbrev pub TakesByPending : (old : SpinCourse) → (task : ℕ) → Made → (new : SpinCourse) → Type 0
TakesByPending old task Done new = (old.spin.locked ≡ false) × (new ≡ record old { spin = taken_by_pending old.spin; owner = None; holder = Some task })
TakesByPending old task Fails new = new ≡ old

-- the head holds, and the others stay in the queue; or locked byte or pending bit is set
abbrev pub HeadsTo : (old : SpinCourse) → (task : ℕ) → Made → (new : SpinCourse) → Type 0
HeadsTo old task Done new = IsClear old.spin × (old.queue.items ≡ task ∷ new.queue.items) × (new ≡ record old { spin = new.spin; holder = Some task; queue = new.queue })
HeadsTo old task Fails new = new ≡ old
