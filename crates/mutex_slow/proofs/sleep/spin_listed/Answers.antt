use Rattle.mutex_slow.proofs.Opening.{opens-behind}
use Rattle.mutex_slow.proofs.sleep.spin_listed.Goals as goal

pub returns-then-try_listed-clause-opened : goal.returns-then-try_listed-clause-opened
returns-then-try_listed-clause-opened g c = λ _. opens-behind c.args.site.now c.args.pass.now c.loop.pass c.try_listed.new.pass c.requires.own c.loop.invariant.2 (c.try_listed.ensures.opened c.if-try_listed.true)
