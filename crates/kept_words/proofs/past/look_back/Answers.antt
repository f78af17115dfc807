use Rattle.kept_words.proofs.Guards.{held-last, looked-back}
use Rattle.kept_words.proofs.past.look_back.Goals as goal

pub returns-clause-now : goal.returns-clause-now
returns-clause-now g c = held-last (g.L.SiteLock.view c.recall.new.pass) c.recall.ensures.last

pub returns-clause-apart : goal.returns-clause-apart
returns-clause-apart g c = (looked-back g.O.Object.object g.L.SleepLock.kind g.O.Object.WORDS (g.L.SiteLock.calls_on c.args.lock.now) g.L.SleepLock.word_at g.L.SleepLock.waits c.requires.inside (g.L.SiteLock.view c.recall.new.pass).past c.recall.ensures.always c.recall.ensures.moves).0

pub returns-clause-left : goal.returns-clause-left
returns-clause-left g c = (looked-back g.O.Object.object g.L.SleepLock.kind g.O.Object.WORDS (g.L.SiteLock.calls_on c.args.lock.now) g.L.SleepLock.word_at g.L.SleepLock.waits c.requires.inside (g.L.SiteLock.view c.recall.new.pass).past c.recall.ensures.always c.recall.ensures.moves).1
