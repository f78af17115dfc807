use Rattle.std.proofs.lemmas.Bool.{eqb-true}
use Rattle.qspin_queue.proofs.Turns.{tried-takes, tried-leaves, tried-from}
use Rattle.qspin_queue.proofs.queue.try_cleared.Goals as goal

pub returns-clause-takes : goal.returns-clause-takes
returns-clause-takes g c = λ e. tried-takes c.args.site.now c.args.lock (Unit {0}) c.retry.result c.args.pass.now c.peek.new.pass c.retry.new.pass c.requires.point c.requires.told c.peek.ensures.steps c.retry.ensures.steps (eqb-true c.retry.result 0 e)

pub returns-clause-left : goal.returns-clause-left
returns-clause-left g c = λ e. tried-leaves c.args.site.now c.args.lock (Unit {0}) c.retry.result c.args.pass.now c.peek.new.pass c.retry.new.pass c.requires.point c.requires.told c.peek.ensures.steps c.retry.ensures.steps (eqb-true c.retry.result 0 e)

pub returns-clause-cleared : goal.returns-clause-cleared
returns-clause-cleared g c = λ e. tried-from c.args.site.now c.args.lock (Unit {0}) c.retry.result c.args.pass.now c.peek.new.pass c.retry.new.pass c.requires.point c.peek.ensures.steps c.retry.ensures.steps (eqb-true c.retry.result 0 e)
