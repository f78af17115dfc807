use Rattle.vma_map.specs.Spaces.{space}
use Rattle.fd_table.specs.Tables.{table}
use Rattle.sleep_lock.specs.LockMembers.{members}
use Rattle.mutex_slow.specs.MutexLocks.{KnowsMutex}
use Rattle.rwsem_slow.specs.RwSemLocks.{KnowsRwSem}
use Rattle.osq_unqueue.specs.LockSpinQueues.{KnowsSpinQueue}
use Rattle.mm_program.proofs.ToldWakes.{tells_no_lost_wake}
use Rattle.mm_program.proofs.laws.told_waiters_lose_no_wake.Goals as goal

pub returns : goal.returns
returns g c =
    let a = g.A.SleepLock in
    let t = g.T.SleepLock in
    tells_no_lost_wake
    (members g.A.SiteLock.calls_on g.A.SiteLock.view g.A.SiteLock.sits a.spun a.kind a.word_at a.opened a.waits (KnowsRwSem space 257) KnowsSpinQueue)
    (members g.T.SiteLock.calls_on g.T.SiteLock.view g.T.SiteLock.sits t.spun t.kind t.word_at t.opened t.waits (KnowsMutex table 64) KnowsSpinQueue)
    (λ k u told. told)
    (λ k u told. told)
