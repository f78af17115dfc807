use Rattle.word_bits.specs.LockWords.{owned}
use Rattle.lock_core.proofs.Opening.{fresh-new}
use Rattle.mutex_slow.specs.MutexHandles.{wakes_in}
use Rattle.mutex_slow.specs.Mutexes.{idle, standing}
use Rattle.mutex_slow.proofs.mutex_lock.MutexSleepLock.recall.Goals as goal

pub returns-clause-new : goal.returns-clause-new
returns-clause-new g c = let m = g.met.O.Object in fresh-new g.O.Object.object owned g.O.Object.WORDS c.args.self.now.site.table.shared.key standing idle m.few_words m.zeros

pub returns-clause-marked : goal.returns-clause-marked
returns-clause-marked g c = (wakes_in c.recall.new.pass, c.recall.ensures.counts)
