use Rattle.std.proofs.Common.{ap, refl, arith}
use Rattle.lock_core.specs.declared.view.Hand.{Hand}
use Rattle.lock_bench.proofs.Beginning.{begun-between}
use Rattle.lock_bench.proofs.crewed.CrewedTimed.rounds.Goals as goal

pub loop-number-init : goal.loop-number-init
loop-number-init g c =
    let idle = c.requires.idle in
    let none = (g.met.L.SleepLock.stands c.args.self.now.lock c.args.worker.now.pass idle.own).nameless idle.numberless in
    let now = c.begin.ensures.became.4 in
    let takes = ap {A = Hand} (λ h. h.takes) now in record {
      own = c.begin.ensures.on.own;
      between = begun-between (g.L.SiteLock.view c.args.worker.now.pass) (g.L.SiteLock.view c.begin.new.pass) _ now refl refl refl refl none;
      takes = omega (arith, takes);
    }
