use Rattle.std.proofs.Common.{ap, refl, arith}
use Rattle.lock_core.specs.declared.view.Hand.{Hand}
use Rattle.lock_bench.proofs.Beginning.{begun-between}
use Rattle.lock_bench.proofs.work.GuardingTimed.rounds.Goals as goal

pub loop-init : goal.loop-init
loop-init g c =
    let idle = c.requires.idle in
    let none = (g.met.L.SleepLock.stands c.args.self.now.crewed.lock c.args.worker.now.pass idle.own).nameless idle.numberless in
    let now = c.begin.ensures.became.4 in
    let takes = ap {A = Hand} (λ h. h.takes) now in record {
      own = c.begin.ensures.on.own;
      between = begun-between (g.L.SiteLock.view c.args.worker.now.pass) (g.L.SiteLock.view c.begin.new.pass) _ now refl refl refl refl none;
      takes = omega (arith, takes);
    }
