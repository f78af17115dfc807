use Rattle.vma_map.specs.Spaces.{space}
use Rattle.fd_table.specs.Tables.{table}
use Rattle.mutex_slow.specs.MutexLocks.{KnowsMutex}
use Rattle.rwsem_slow.specs.RwSemLocks.{KnowsRwSem}
use Rattle.osq_unqueue.specs.LockSpinQueues.{KnowsSpinQueue}
use Rattle.sleep_lock.specs.LockMembers.{members}
use Rattle.mm_program.specs.ProgramKept.{HasServedUnder}
use Rattle.mm_program.proofs.Telling.{served-under}
use Rattle.mm_program.proofs.Weaker.{answers-weaker, completes-weaker}
use Rattle.mm_program.proofs.program.top.Goals as goal

pub returns-clause-answer : goal.returns-clause-answer
returns-clause-answer g c = answers-weaker (HasServedUnder (members g.A.SiteLock.calls_on g.A.SiteLock.view g.A.SiteLock.sits g.A.SleepLock.spun g.A.SleepLock.kind g.A.SleepLock.word_at g.A.SleepLock.opened g.A.SleepLock.waits g.A.SleepLock.tells g.A.SleepLock.tells_queue) (members g.T.SiteLock.calls_on g.T.SiteLock.view g.T.SiteLock.sits g.T.SleepLock.spun g.T.SleepLock.kind g.T.SleepLock.word_at g.T.SleepLock.opened g.T.SleepLock.waits g.T.SleepLock.tells g.T.SleepLock.tells_queue)) (HasServedUnder (members g.A.SiteLock.calls_on g.A.SiteLock.view g.A.SiteLock.sits g.A.SleepLock.spun g.A.SleepLock.kind g.A.SleepLock.word_at g.A.SleepLock.opened g.A.SleepLock.waits (KnowsRwSem space 257) KnowsSpinQueue) (members g.T.SiteLock.calls_on g.T.SiteLock.view g.T.SiteLock.sits g.T.SleepLock.spun g.T.SleepLock.kind g.T.SleepLock.word_at g.T.SleepLock.opened g.T.SleepLock.waits (KnowsMutex table 64) KnowsSpinQueue)) (λ m. m) (served-under (members g.A.SiteLock.calls_on g.A.SiteLock.view g.A.SiteLock.sits g.A.SleepLock.spun g.A.SleepLock.kind g.A.SleepLock.word_at g.A.SleepLock.opened g.A.SleepLock.waits g.A.SleepLock.tells g.A.SleepLock.tells_queue) (members g.T.SiteLock.calls_on g.T.SiteLock.view g.T.SiteLock.sits g.T.SleepLock.spun g.T.SleepLock.kind g.T.SleepLock.word_at g.T.SleepLock.opened g.T.SleepLock.waits g.T.SleepLock.tells g.T.SleepLock.tells_queue) (KnowsRwSem space 257) (KnowsMutex table 64) KnowsSpinQueue KnowsSpinQueue (g.met.A.SpaceLock g.world.𝓛 g.world.𝓜 g.world.𝓡 ((λ s x. x), (λ x. x), (λ x. x), λ x. x)).is_semaphore (g.met.T.TableLock g.world.𝓛 g.world.𝓜 g.world.𝓡 ((λ s x. x), (λ x. x), (λ x. x), λ x. x)).is_mutex (g.met.A.SpaceLock g.world.𝓛 g.world.𝓜 g.world.𝓡 ((λ s x. x), (λ x. x), (λ x. x), λ x. x)).has_queue (g.met.T.TableLock g.world.𝓛 g.world.𝓜 g.world.𝓡 ((λ s x. x), (λ x. x), (λ x. x), λ x. x)).has_queue) c.serve_words.new.kept c.serve_words.new.kept (λ none. none) (λ m is. is) _ _ _ _ _ _ _ c.serve_words.ensures.answer

pub returns-clause-complete : goal.returns-clause-complete
returns-clause-complete g c = completes-weaker (HasServedUnder (members g.A.SiteLock.calls_on g.A.SiteLock.view g.A.SiteLock.sits g.A.SleepLock.spun g.A.SleepLock.kind g.A.SleepLock.word_at g.A.SleepLock.opened g.A.SleepLock.waits g.A.SleepLock.tells g.A.SleepLock.tells_queue) (members g.T.SiteLock.calls_on g.T.SiteLock.view g.T.SiteLock.sits g.T.SleepLock.spun g.T.SleepLock.kind g.T.SleepLock.word_at g.T.SleepLock.opened g.T.SleepLock.waits g.T.SleepLock.tells g.T.SleepLock.tells_queue)) (HasServedUnder (members g.A.SiteLock.calls_on g.A.SiteLock.view g.A.SiteLock.sits g.A.SleepLock.spun g.A.SleepLock.kind g.A.SleepLock.word_at g.A.SleepLock.opened g.A.SleepLock.waits (KnowsRwSem space 257) KnowsSpinQueue) (members g.T.SiteLock.calls_on g.T.SiteLock.view g.T.SiteLock.sits g.T.SleepLock.spun g.T.SleepLock.kind g.T.SleepLock.word_at g.T.SleepLock.opened g.T.SleepLock.waits (KnowsMutex table 64) KnowsSpinQueue)) (λ m. m) (served-under (members g.A.SiteLock.calls_on g.A.SiteLock.view g.A.SiteLock.sits g.A.SleepLock.spun g.A.SleepLock.kind g.A.SleepLock.word_at g.A.SleepLock.opened g.A.SleepLock.waits g.A.SleepLock.tells g.A.SleepLock.tells_queue) (members g.T.SiteLock.calls_on g.T.SiteLock.view g.T.SiteLock.sits g.T.SleepLock.spun g.T.SleepLock.kind g.T.SleepLock.word_at g.T.SleepLock.opened g.T.SleepLock.waits g.T.SleepLock.tells g.T.SleepLock.tells_queue) (KnowsRwSem space 257) (KnowsMutex table 64) KnowsSpinQueue KnowsSpinQueue (g.met.A.SpaceLock g.world.𝓛 g.world.𝓜 g.world.𝓡 ((λ s x. x), (λ x. x), (λ x. x), λ x. x)).is_semaphore (g.met.T.TableLock g.world.𝓛 g.world.𝓜 g.world.𝓡 ((λ s x. x), (λ x. x), (λ x. x), λ x. x)).is_mutex (g.met.A.SpaceLock g.world.𝓛 g.world.𝓜 g.world.𝓡 ((λ s x. x), (λ x. x), (λ x. x), λ x. x)).has_queue (g.met.T.TableLock g.world.𝓛 g.world.𝓜 g.world.𝓡 ((λ s x. x), (λ x. x), (λ x. x), λ x. x)).has_queue) c.serve_words.new.kept c.serve_words.new.kept (λ none. none) (λ m is. is) _ _ _ _ _ _ _ c.serve_words.ensures.complete
