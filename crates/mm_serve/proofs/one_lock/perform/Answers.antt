use Rattle.mm_serve.proofs.Passes.{went-on}
use Rattle.mm_serve.proofs.one_lock.perform.Goals as goal

pub returns-clause-serving : goal.returns-clause-serving
returns-clause-serving g c = went-on g.O.Object.object g.L.SleepLock.kind g.L.SleepLock.word_at (g.L.SiteLock.calls_on c.args.guarded.now.lock) c.args.task c.perform.result (g.L.SiteLock.view c.args.pass.now) (g.L.SiteLock.view c.perform.new.pass) c.requires.serving c.perform.ensures.performs c.perform.ensures.one_more
