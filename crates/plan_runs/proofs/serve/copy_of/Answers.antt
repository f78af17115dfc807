use Rattle.lock_core.specs.Kinds.{unavailable}
use Rattle.plan_runs.proofs.Gathered.{still-gathered}
use Rattle.plan_runs.proofs.serve.copy_of.Goals as goal

pub returns-clause-legal : goal.returns-clause-legal
returns-clause-legal g c = λ gathered. let known = c.snapshot.ensures.legal (still-gathered g.O.Object.object (unavailable g.L.SleepLock.kind) (g.L.SiteLock.calls_on c.args.guarded.now.lock) (g.L.SiteLock.view c.args.pass.now).hand _ c.begin.ensures.done gathered) in (known.0, known.1, known.2, known.3)
