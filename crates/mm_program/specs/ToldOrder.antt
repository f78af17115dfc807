-- In what order the histories that a machine's results tell have their calls.
use Rattle.std.specs.Prelude.{◌≡◌, ◌⊎◌, ℕ, Bool, true, false, List, slice_get, Some}
use Rattle.word_bits.specs.Objects.{IsObjectReply}
use Rattle.word_bits.specs.Histories.{Plan, Event, history}
use Rattle.vma_map.specs.Spaces.{space}
use Rattle.fd_table.specs.Tables.{table}
use Rattle.sleep_lock.specs.LockMembers.{LockMembers}
use Rattle.task_script.specs.Scripts.{Declared, Listing, plan_of}
use Rattle.mm_report.specs.Orders.{IsEventOf, Before}
use Rattle.mm_report.specs.Results.{Told}
use Rattle.mm_serve.specs.Machines.{gathered_of}
use Rattle.mm_serve.specs.RealTimeOrder.{ReadAtOnePlace, WasRecordedBefore}
use Rattle.mm_serve.specs.UnderLocks.{past_under}
use Rattle.mm_program.specs.ProgramKept.{HasServedUnder, LockedMachine}
use Rattle.mm_program.specs.Types.{SpaceOrTablePass}

-- In the history of a space or of a table the first of these calls stands before the second, or both only read at one place of the log.
abbrev pub StandInOrder : (is_space : Bool) → Plan → Told → (first second : Event) → Type 0
StandInOrder true plan t first second = Before (history space plan t.records t.log) first second ⊎ ReadAtOnePlace space first second
StandInOrder false plan t first second = Before (history table plan t.records t.log) first second ⊎ ReadAtOnePlace table first second

module _ {A S R X P E C T F G Y Q H D B U : Type 0} (spaces : LockMembers A P) (tables : LockMembers T Q) where
  -- Take two calls on one object that held its lock, and a moment of the object's table to which the object's gathered pass goes back. If the first was recorded at that moment and the second wasn't,
  -- the history that is told of the object has the first before the second. Only two calls that read at one place of the log may stand the other way round.
  abbrev pub TellsInRealTimeOrder : LockedMachine A S R X P E C T F G Y Q H D B U → Type 0
  TellsInRealTimeOrder m =
      (script : Listing) (told : List Told) (object : ℕ) (d : Declared) (t : Told) (p : SpaceOrTablePass P Q) (first second : Event)
      → HasServedUnder spaces tables script told m
      → slice_get script.objects object ≡ Some d → slice_get told object ≡ Some t → slice_get (gathered_of m) object ≡ Some p
      → IsEventOf (plan_of script object) t.records first → IsEventOf (plan_of script object) t.records second
      → IsObjectReply first.told.reply → IsObjectReply second.told.reply
      → WasRecordedBefore (plan_of script object) (past_under spaces tables p) first second
      → StandInOrder d.is_space (plan_of script object) t first second
