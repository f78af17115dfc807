use Rattle.guarded.proofs.Chained.{next-there}
use Rattle.plan_runs.proofs.serve.reply_of.Goals as goal

pub perform-requires-clause-there : goal.perform-requires-clause-there
perform-requires-clause-there g c = next-there (g.L.SiteLock.calls_on c.args.guarded.now.lock) (g.L.SiteLock.view c.args.pass.now).hand c.args.task c.args.call c.requires.numbered c.requires.there
