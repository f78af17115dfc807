use Rattle.std.proofs.lemmas.Bool.{eqb-true}
use Rattle.qspin_queue.proofs.Turns.{last-takes, last-leaves, last-from}
use Rattle.qspin_queue.proofs.queue.take_last.Goals as goal

pub returns-clause-takes : goal.returns-clause-takes
returns-clause-takes g c = λ e. last-takes c.args.site.now c.args.lock (Unit {0}) c.exchange_last.result c.args.seen c.args.pass.now c.exchange_last.new.pass c.requires.point c.exchange_last.ensures.steps (eqb-true c.exchange_last.result c.args.seen e)

pub returns-clause-left : goal.returns-clause-left
returns-clause-left g c = λ e. last-leaves c.args.site.now c.args.lock (Unit {0}) c.exchange_last.result c.args.seen c.args.pass.now c.exchange_last.new.pass c.requires.point c.exchange_last.ensures.steps (eqb-true c.exchange_last.result c.args.seen e)

pub returns-clause-ready : goal.returns-clause-ready
returns-clause-ready g c = λ e. last-from c.args.site.now c.args.lock (Unit {0}) c.exchange_last.result c.args.seen c.args.pass.now c.exchange_last.new.pass c.requires.point c.exchange_last.ensures.steps (eqb-true c.exchange_last.result c.args.seen e)
