-- No wake-up is lost at any moment that a gathered pass goes back to.
use Rattle.std.proofs.Common.{arith}
use Rattle.word_bits.specs.Objects.{Obj}
use Rattle.word_bits.specs.Histories.{Plan}
use Rattle.vma_map.specs.Spaces.{space}
use Rattle.fd_table.specs.Tables.{table}
use Rattle.lock_core.specs.Pasts.{EachMoment}
use Rattle.lock_core.specs.Shown.{Shown}
use Rattle.lock_core.proofs.RowLaws.{some-inside, get-there}
use Rattle.guarded.specs.GuardedHandles.{lock_of}
use Rattle.mutex_slow.specs.MutexLocks.{KnowsMutex}
use Rattle.mutex_slow.specs.MutexStated.{IsMutexThen}
use Rattle.mutex_slow.proofs.Locking.{each-moment}
use Rattle.mutex_slow.proofs.LostWakes as mutex_wakes
use Rattle.rwsem_slow.specs.RwSemLocks.{KnowsRwSem}
use Rattle.rwsem_slow.specs.RwSemStated.{IsRwSemThen}
use Rattle.rwsem_slow.proofs.LostWakes as rwsem_wakes
use Rattle.sleep_lock.specs.LockMembers.{LockMembers}
use Rattle.mm_serve.specs.Machines.{sites_of}
use Rattle.mm_serve.specs.UnderLocks.{KnowsPastUnder, LockedObject, past_under}
use Rattle.mm_program.specs.ProgramKept.{LockedMachine}
use Rattle.mm_program.specs.ToldWakes.{LosesNoSpaceWake, LosesNoTableWake, LosesNoWake, TellsNoLostWake}
use Rattle.mm_program.specs.Types.{Moment, Space, Table, SpaceOrTablePass, OfSpace, OfTable}

loses-no-table-wake : {Call : Type 0} (o : Obj Call) (k : Plan) (m : Moment) → IsMutexThen o 64 k m → LosesNoTableWake m
loses-no-table-wake o k m then = record { waiting = then.1.0; listed = then.1.1; woken = mutex_wakes.loses_no_wake m }

loses-no-space-wake : {Call : Type 0} (o : Obj Call) (k : Plan) (m : Moment) → IsRwSemThen o 257 k m → LosesNoSpaceWake m
loses-no-space-wake o k m then = record { waiting = then.1.0; parts = then.1.1; queued = then.1.2; woken = rwsem_wakes.loses_no_wake m }

module _ {A S R X P E C T F G Y Q H D : Type 0} (spaces : LockMembers A P) (tables : LockMembers T Q)
    (is_semaphore : (k : Plan) (u : Shown) → spaces.tells k u → KnowsRwSem space 257 k u) (is_mutex : (k : Plan) (u : Shown) → tables.tells k u → KnowsMutex table 64 k u) where
  loses-no-wake : (s : LockedObject A S R X P E C T F G Y Q H D) (p : SpaceOrTablePass P Q) → KnowsPastUnder spaces tables s p → EachMoment (LosesNoWake p) (past_under spaces tables p)
  loses-no-wake (Space s) (OfSpace p) knows = let k = spaces.calls_on (lock_of s) in each-moment (IsRwSemThen space 257 k) LosesNoSpaceWake (loses-no-space-wake space k) (spaces.view p).past (is_semaphore k (spaces.view p) knows.0.told).always
  loses-no-wake (Table s) (OfTable p) knows = let k = tables.calls_on (lock_of s) in each-moment (IsMutexThen table 64 k) LosesNoTableWake (loses-no-table-wake table k) (tables.view p).past (is_mutex k (tables.view p) knows.0.told).always
  loses-no-wake (Space s) (OfTable p) knows = absurd knows
  loses-no-wake (Table s) (OfSpace p) knows = absurd knows

  module _ {B U : Type 0} where
    pub tells_no_lost_wake : (m : LockedMachine A S R X P E C T F G Y Q H D B U) → TellsNoLostWake spaces tables m
    tells_no_lost_wake m script told object d p served declared gathered =
        let many = served.of.many in
        let inside = some-inside script.objects object d declared in
        let there = get-there (sites_of m) object (omega (arith, many, inside)) in
        loses-no-wake there.0 p (served.past object there.0 p there.1 gathered)
