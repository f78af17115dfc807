use Rattle.std.proofs.Common.{refl, ap, ◌∙◌}
use Rattle.mutex_slow.specs.Types.{MutexHand}
use Rattle.cpu_task.proofs.SleepCounts.{once-within}
use Rattle.mutex_slow.proofs.Opening.{opens-behind, opens-before}
use Rattle.mutex_slow.proofs.sleep.sleep_and_try.Goals as goal

pub doze-requires-clause-tried : goal.doze-requires-clause-tried
doze-requires-clause-tried g c = (c.args.pass.now.seat.me.0.view.spin.entries, ap (λ (e : MutexHand). e.wake.wait_state) c.unlock.ensures.ext ∙ c.requires.tried.tried)

pub returns-clause-dozed : goal.returns-clause-dozed
returns-clause-dozed g c = once-within (g.C.Cpu.sleeps c.args.cpu.now) (g.C.Cpu.sleeps c.args.cpu.now) _ _ _ _ _ _ refl (ap (λ (e : MutexHand). e.wake.dozes) c.unlock.ensures.ext) c.doze.ensures.dozed c.try_awake-took.ensures.sleeps (ap (λ (e : MutexHand). e.wake.dozes) c.lock.ensures.gained.ext ∙ c.try_awake-took.ensures.counts.dozes)

pub returns-clause-opened : goal.returns-clause-opened
returns-clause-opened g c = λ took. opens-before c.args.site.now c.args.pass.now c.try_awake-took.new.pass c.lock.new.pass (opens-behind c.args.site.now c.args.pass.now c.unlock.new.pass c.try_awake-took.new.pass c.requires.own c.unlock.ensures.on
    (opens-behind c.args.site.now c.unlock.new.pass c.doze.new.pass c.try_awake-took.new.pass c.unlock.ensures.on.own c.doze.ensures.on (c.try_awake-took.ensures.opened took))) c.lock.ensures.on
