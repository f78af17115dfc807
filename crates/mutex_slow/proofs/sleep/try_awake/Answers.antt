use Rattle.mutex_slow.proofs.Opening.{opens-behind}
use Rattle.mutex_slow.proofs.sleep.try_awake.Goals as goal

pub returns-then-try_listed-clause-opened : goal.returns-then-try_listed-clause-opened
returns-then-try_listed-clause-opened g c = λ _. opens-behind c.args.site.now c.args.pass.now c.sees_first-first.new.pass c.try_listed.new.pass c.requires.own c.sees_first-first.ensures.on (c.try_listed.ensures.opened c.if-try_listed.true)

pub returns-clause-opened : goal.returns-clause-opened
returns-clause-opened g c = λ took. opens-behind c.args.site.now c.args.pass.now c.sees_first-first.new.pass c.spin_listed.new.pass c.requires.own c.sees_first-first.ensures.on
    (opens-behind c.args.site.now c.sees_first-first.new.pass c.try_listed.new.pass c.spin_listed.new.pass c.sees_first-first.ensures.on.own c.try_listed.ensures.on (c.spin_listed.ensures.opened took))
