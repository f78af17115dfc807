use Rattle.word_bits.specs.LockWords.{counted}
use Rattle.lock_core.proofs.Opening.{fresh-new}
use Rattle.rwsem_slow.specs.RwSemHandles.{wakes_in}
use Rattle.rwsem_slow.specs.RwSems.{idle, standing}
use Rattle.rwsem_slow.proofs.rwsem_lock.RwSemSleepLock.recall.Goals as goal

pub returns-clause-new : goal.returns-clause-new
returns-clause-new g c = let m = g.met.O.Object in fresh-new g.O.Object.object counted g.O.Object.WORDS c.args.self.now.site.table.shared.key standing idle m.few_words m.zeros

pub returns-clause-marked : goal.returns-clause-marked
returns-clause-marked g c = (wakes_in c.recall.new.pass, c.recall.ensures.counts)
