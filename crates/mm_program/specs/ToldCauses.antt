-- That each call which the text tells as busy, interrupted or sent has its cause behind its task's record before it on the object.
use Rattle.std.specs.Prelude.{◌≡◌, ℕ, Bool, true, false, List, slice_get, Some}
use Rattle.word_bits.specs.Histories.{Event}
use Rattle.lock_core.specs.Causes.{HasCause}
use Rattle.sleep_lock.specs.LockMembers.{LockMembers}
use Rattle.task_script.specs.Scripts.{Declared, Listing, plan_of}
use Rattle.mm_report.specs.Orders.{IsEventOf}
use Rattle.mm_report.specs.Results.{Told}
use Rattle.mm_serve.specs.Machines.{gathered_of}
use Rattle.mm_serve.specs.UnderLocks.{past_under}
use Rattle.mm_program.specs.ProgramKept.{HasServedUnder, LockedMachine}
use Rattle.mm_program.specs.Types.{SpaceOrTablePass}

module _ {A P T Q : Type 0} (spaces : LockMembers A P) (tables : LockMembers T Q) where
  -- where the lock's word stands in the table of an object of this kind
  abbrev pub word_under : (is_space : Bool) → ℕ
  word_under true = spaces.word_at
  word_under false = tables.word_at

module _ {A S R X P E C T F G Y Q H D B U : Type 0} (spaces : LockMembers A P) (tables : LockMembers T Q) where
  -- The gathered pass of an object goes back to the cause of each call on it that is told as busy, interrupted or sent: to a step of a pass with the call's task, behind the task's record before the
  -- call on the object and not behind the call's own. Of calls on other objects nothing is said.
  abbrev pub TellsCauses : LockedMachine A S R X P E C T F G Y Q H D B U → Type 0
  TellsCauses m =
      (script : Listing) (told : List Told) (object : ℕ) (d : Declared) (t : Told) (p : SpaceOrTablePass P Q) (v : Event)
      → HasServedUnder spaces tables script told m
      → slice_get script.objects object ≡ Some d → slice_get told object ≡ Some t → slice_get (gathered_of m) object ≡ Some p
      → IsEventOf (plan_of script object) t.records v
      → HasCause (plan_of script object) (word_under spaces tables d.is_space) (past_under spaces tables p) v.entry.task v.entry.call v.told.reply
