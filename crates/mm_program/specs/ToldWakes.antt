-- That no wake-up is lost at any moment that a gathered pass goes back to.
use Rattle.std.specs.Prelude.{◌≡◌, ℕ, List, slice_get, Some}
use Rattle.lock_core.specs.Pasts.{EachMoment}
use Rattle.mutex_slow.specs.LostWakes as mutex_wakes
use Rattle.mutex_slow.specs.MutexStated.{IsListed}
use Rattle.rwsem_wake.specs.SemParts.{SemPart}
use Rattle.rwsem_slow.specs.LostWakes as rwsem_wakes
use Rattle.rwsem_slow.specs.RwSemStated.{IsQueued}
use Rattle.sleep_lock.specs.LockMembers.{LockMembers}
use Rattle.task_script.specs.Scripts.{Declared, Listing}
use Rattle.mm_report.specs.Results.{Told}
use Rattle.mm_serve.specs.Machines.{gathered_of}
use Rattle.mm_serve.specs.UnderLocks.{past_under}
use Rattle.mm_program.specs.ProgramKept.{HasServedUnder, LockedMachine}
use Rattle.mm_program.specs.Types.{Moment, Waiter, SpaceOrTablePass, OfSpace, OfTable}

-- There is a list of those that wait for a table, and of each such list no wake-up is lost.
pub record LosesNoTableWake (m : Moment) : Type 0 where
  pub waiting : List Waiter
  pub listed : IsListed m waiting
  pub woken : (l : List Waiter) → IsListed m l → mutex_wakes.LosesNoWake m l

-- There is a list of those that wait for a space, with what the passes have of the semaphore, and of each such list no wake-up is lost.
pub record LosesNoSpaceWake (m : Moment) : Type 0 where
  pub waiting : List Waiter
  pub parts : List SemPart
  pub queued : IsQueued m waiting parts
  pub woken : (q : List Waiter) (ps : List SemPart) → IsQueued m q ps → rwsem_wakes.LosesNoWake m q ps

-- of an object of this pass's kind
abbrev pub LosesNoWake : {P Q : Type 0} → SpaceOrTablePass P Q → Moment → Type 0
LosesNoWake (OfSpace p) m = LosesNoSpaceWake m
LosesNoWake (OfTable p) m = LosesNoTableWake m

module _ {A S R X P E C T F G Y Q H D B U : Type 0} (spaces : LockMembers A P) (tables : LockMembers T Q) where
  -- at each moment that the gathered pass of an object goes back to no wake-up of it was lost
  abbrev pub TellsNoLostWake : LockedMachine A S R X P E C T F G Y Q H D B U → Type 0
  TellsNoLostWake m =
      (script : Listing) (told : List Told) (object : ℕ) (d : Declared) (p : SpaceOrTablePass P Q)
      → HasServedUnder spaces tables script told m
      → slice_get script.objects object ≡ Some d → slice_get (gathered_of m) object ≡ Some p
      → EachMoment (LosesNoWake p) (past_under spaces tables p)
