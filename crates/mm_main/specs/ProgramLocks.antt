-- The program's own locks: its spaces are under semaphores, and its tables under mutexes.
use Rattle.std.specs.Prelude.{ℕ}
use Rattle.vma_map.specs.Spaces.{space}
use Rattle.vma_map.specs.declared.areas.Areas.{Areas}
use Rattle.vma_map.specs.declared.call.SpaceCall.{SpaceCall}
use Rattle.fd_table.specs.Tables.{table}
use Rattle.fd_table.specs.declared.fds.Fds.{Fds}
use Rattle.fd_table.specs.declared.call.TableCall.{TableCall}
use Rattle.cpu_task.specs.declared.park.ParkCrew.{ParkCrew}
use Rattle.cpu_task.specs.declared.park.ParkCpu.{ParkCpu}
use Rattle.lock_core.specs.Kinds.{mutex, semaphore}
use Rattle.lock_core.specs.Sitting.{SitsIdle}
use Rattle.lock_core.specs.declared.site.Site.{Site}
use Rattle.sleep_lock.specs.LockMembers.{LockMembers, members}
use Rattle.osq_unqueue.specs.LockSpinQueues.{KnowsSpinQueue}
use Rattle.rwsem_wake.specs.RwSemViews.{count_at}
use Rattle.rwsem_wake.specs.declared.view.RwSemHand.{RwSemHand}
use Rattle.rwsem_slow.specs.declared.calls.RwSem.{RwSem}
use Rattle.rwsem_slow.specs.declared.calls.RwPass.{RwPass}
use Rattle.rwsem_slow.specs.declared.rule.SemRule.{SemRule}
use Rattle.rwsem_slow.specs.RwSemHandles as rwsems
use Rattle.rwsem_slow.specs.RwSemLocks.{KnowsRwSem}
use Rattle.rwsem_slow.specs.RwSemStated as rwsem_stated
use Rattle.mutex_slow.specs.declared.calls.Mutex.{Mutex}
use Rattle.mutex_slow.specs.declared.calls.MutexPass.{MutexPass}
use Rattle.mutex_slow.specs.declared.rule.MutexRule.{MutexRule}
use Rattle.mutex_slow.specs.declared.view.MutexHand.{MutexHand}
use Rattle.mutex_slow.specs.MutexHandles as mutexes
use Rattle.mutex_slow.specs.MutexLocks.{KnowsMutex}
use Rattle.mutex_slow.specs.MutexStated as mutex_stated
use Rattle.mutex_slow.specs.Mutexes.{owner_at}
use Rattle.mm_program.specs.ProgramKept.{LockedMachine}

-- what a semaphore of a space tells
abbrev pub space_locks : LockMembers (RwSem Areas SpaceCall) (RwPass Areas SpaceCall)
space_locks = members rwsems.plan_of rwsems.shown_of (λ s p. SitsIdle space (rwsems.plan_of s) (rwsems.SitsAt s p)) rwsems.spun_of semaphore count_at rwsems.newest rwsem_stated.waits_on
    (KnowsRwSem space 257) KnowsSpinQueue

-- what a mutex of a table tells
abbrev pub table_locks : LockMembers (Mutex Fds TableCall) (MutexPass Fds TableCall)
table_locks = members mutexes.plan_of mutexes.shown_of (λ m p. SitsIdle table (mutexes.plan_of m) (mutexes.SitsAt m p)) mutexes.spun_of mutex owner_at mutexes.newest mutex_stated.waits_on
    (KnowsMutex table 64) KnowsSpinQueue

-- a machine over such objects, whose tasks park
abbrev pub ProgramMachine : Type 0
ProgramMachine =
    LockedMachine (RwSem Areas SpaceCall) Areas (SemRule Areas) (Site (SemRule Areas) Areas RwSemHand SpaceCall) (RwPass Areas SpaceCall) RwSemHand SpaceCall
    (Mutex Fds TableCall) Fds (MutexRule Fds) (Site (MutexRule Fds) Fds MutexHand TableCall) (MutexPass Fds TableCall) MutexHand TableCall ParkCrew ParkCpu
