-- The gathered pass of each object goes back to the causes of the calls that are told.
use Rattle.std.proofs.Common.{◌≡◌, ◌≤◌, Bool, true, false, length, sym, ◌∙◌, subst, arith}
use Rattle.std.proofs.lemmas.Bool.{false≢true}
use Rattle.word_bits.specs.declared.TheConstants.{MAX_TASKS}
use Rattle.word_bits.specs.Histories.{Plan, Records, Event}
use Rattle.vma_map.specs.Spaces.{space}
use Rattle.fd_table.specs.Tables.{table}
use Rattle.lock_core.specs.Causes.{HasCause}
use Rattle.lock_core.specs.Plans.{IsSmall}
use Rattle.lock_core.proofs.RowLaws.{some-inside, get-there}
use Rattle.guarded.specs.GuardedHandles.{lock_of}
use Rattle.guarded.specs.ObjectCopying.{AreKnown}
use Rattle.sleep_lock.specs.LockMembers.{LockMembers}
use Rattle.task_script.specs.Scripts.{plan_of}
use Rattle.mm_report.specs.Orders.{IsEventOf}
use Rattle.mm_serve.specs.Machines.{sites_of}
use Rattle.mm_serve.specs.MachinePasts.{KnowsPast}
use Rattle.mm_serve.specs.MachineSites.{holds_space}
use Rattle.mm_serve.specs.UnderLocks.{KnowsPastUnder, LockedObject, calls_under, hand_under, past_under}
use Rattle.mm_serve.proofs.Causing.{recalled_causes}
use Rattle.mm_serve.proofs.RealTime.{without_told}
use Rattle.mm_program.specs.ProgramKept.{LockedMachine}
use Rattle.mm_program.specs.ToldCauses.{TellsCauses, word_under}
use Rattle.mm_program.specs.Types.{Space, Table, SpaceOrTablePass, OfSpace, OfTable}
use Rattle.mm_program.proofs.ToldOrder.{has-task}

module _ {A S R X P E C T F G Y Q H D : Type 0} (spaces : LockMembers A P) (tables : LockMembers T Q) where
  caused : ((s : A) → IsSmall (spaces.calls_on s)) → ((t : T) → IsSmall (tables.calls_on t)) → (s : LockedObject A S R X P E C T F G Y Q H D) (p : SpaceOrTablePass P Q) (b : Bool) (plan : Plan) (records : Records) (v : Event)
      → holds_space s ≡ b → calls_under spaces tables s ≡ plan → KnowsPastUnder spaces tables s p → AreKnown (hand_under spaces tables p) records
      → IsEventOf plan records v → HasCause plan (word_under spaces tables b) (past_under spaces tables p) v.entry.task v.entry.call v.told.reply
  caused small_spaces small_tables (Space s) (OfSpace p) true plan records v kind calls knows known is =
      recalled_causes space spaces.kind 257 spaces.word_at spaces.waits spaces.opened plan (spaces.view p) records v (subst (λ (k : Plan). length k ≤ MAX_TASKS) calls (small_spaces (lock_of s)).tasks)
      (subst (λ (k : Plan). KnowsPast space spaces.kind 257 spaces.word_at spaces.waits (λ k u. Unit {0}) spaces.opened k (spaces.view p)) calls
      (without_told space spaces.kind 257 spaces.word_at spaces.waits spaces.tells spaces.opened _ _ knows.0)) known is
  caused small_spaces small_tables (Table s) (OfTable p) false plan records v kind calls knows known is =
      recalled_causes table tables.kind 64 tables.word_at tables.waits tables.opened plan (tables.view p) records v (subst (λ (k : Plan). length k ≤ MAX_TASKS) calls (small_tables (lock_of s)).tasks)
      (subst (λ (k : Plan). KnowsPast table tables.kind 64 tables.word_at tables.waits (λ k u. Unit {0}) tables.opened k (tables.view p)) calls
      (without_told table tables.kind 64 tables.word_at tables.waits tables.tells tables.opened _ _ knows.0)) known is
  caused small_spaces small_tables (Space s) (OfSpace p) false plan records v kind calls knows known is = absurd (false≢true (sym kind))
  caused small_spaces small_tables (Table s) (OfTable p) true plan records v kind calls knows known is = absurd (false≢true kind)
  caused small_spaces small_tables (Space s) (OfTable p) b plan records v kind calls knows known is = absurd knows
  caused small_spaces small_tables (Table s) (OfSpace p) b plan records v kind calls knows known is = absurd knows

  module _ {B U : Type 0} where
    pub tells_causes : ((s : A) → IsSmall (spaces.calls_on s)) → ((t : T) → IsSmall (tables.calls_on t)) → (m : LockedMachine A S R X P E C T F G Y Q H D B U) → TellsCauses spaces tables m
    tells_causes small_spaces small_tables m script told object d t p v served declared tells gathered is =
        let many = served.of.many in
        let inside = some-inside script.objects object d declared in
        let there = get-there (sites_of m) object (omega (arith, many, inside)) in
        let plan = plan_of script object in
        caused small_spaces small_tables there.0 p d.is_space plan t.records v (served.of.kinds object there.0 d there.1 declared) (served.of.plans object there.0 there.1 ∙ has-task plan t.records v is)
        (served.past object there.0 p there.1 gathered) (served.known object t p tells gathered) is
