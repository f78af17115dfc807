-- That no wake-up of a semaphore is lost.
use Rattle.std.specs.Prelude.{◌≡◌, ◌≢◌, ℕ, ◌≤◌, ◌⊎◌, true, List, ◌∷◌, Some, None}
use mathlib.Core.Option.{some}
use lib.ListN.{get_elem?}
use Rattle.lock_core.specs.Totals.{total}
use Rattle.rwsem_wake.specs.GrantsStated.{readers}
use Rattle.rwsem_wake.specs.Duties.{kept_of}
use Rattle.rwsem_wake.specs.SemParts.{SemPart, alone_of, granted_of, reserve_of, transit_of}
use Rattle.rwsem_slow.specs.RwSems.{grants_in}
use Rattle.rwsem_slow.specs.RwSemStated.{HasWaitLock, IsBeingWoken, SomebodyOwes}
use Rattle.rwsem_slow.specs.Types.{Hand, No, Moment, Waiter}

-- a reader's bias is in transit: its task, which holds nothing, is to keep it or to take it back
abbrev pub HasTransit : Moment → List SemPart → Type 0
HasTransit m ps = (id : ℕ) × (h : Hand) × (p : SemPart) × (get_elem? m.hands id ≡ some h) × (get_elem? ps id ≡ some p)
    × (transit_of p ≡ 1) × (h.task ≢ None) × (h.held ≡ No)

-- a waker that has the wait lock has reserved a bias, by which it keeps writers out
abbrev pub HasReserve : Moment → List SemPart → Type 0
HasReserve m ps = (id : ℕ) × (p : SemPart) × (get_elem? ps id ≡ some p) × (reserve_of p ≡ 1) × (kept_of p ≡ 1) × HasWaitLock id m

-- Where nobody writes or reads and this is the first waiter, a task owes a wake, or a bias keeps writers out, or that waiter is a writer that needs no further wake. A reader that is granted while it
-- waits needs none either.
pub record LosesNoWake (m : Moment) (q : List Waiter) (ps : List SemPart) : Type 0 where
  pub first : (w : Waiter) (behind : List Waiter) → q ≡ w ∷ behind → total alone_of ps ≡ 0 → readers (grants_in m.words) ps ≡ 0 → SomebodyOwes m ⊎ HasTransit m ps ⊎ HasReserve m ps
      ⊎ ((w.writer ≡ true) × IsBeingWoken m w.task)
  pub granted : (id t : ℕ) (h : Hand) (p : SemPart) → get_elem? m.hands id ≡ some h → get_elem? ps id ≡ some p → 1 ≤ granted_of (grants_in m.words) p → h.task ≡ Some t → IsBeingWoken m t
