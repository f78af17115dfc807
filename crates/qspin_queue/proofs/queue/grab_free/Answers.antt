use Rattle.std.proofs.lemmas.Bool.{eqb-true, eqb-false}
use Rattle.qspin_queue.proofs.Entering.{seek-waits, seek-nodes, seek-point, grab-from, grab-takes, grab-missed, grab-nodes}
use Rattle.qspin_queue.proofs.queue.grab_free.Goals as goal

pub returns-then-seek-ne0-clause-missed : goal.returns-then-seek-ne0-clause-missed
returns-then-seek-ne0-clause-missed g c = λ _. seek-waits c.args.site.now c.args.lock (Unit {0}) c.args.pass.now c.seek.new.pass c.requires.point c.seek.ensures.steps

pub returns-then-seek-ne0-clause-nodes : goal.returns-then-seek-ne0-clause-nodes
returns-then-seek-ne0-clause-nodes g c = seek-nodes c.args.site.now c.args.lock (Unit {0}) c.args.pass.now c.seek.new.pass c.requires.point c.seek.ensures.steps c.requires.told.depth

pub grab-requires-clause-point : goal.grab-requires-clause-point
grab-requires-clause-point g c = seek-point c.args.site.now c.args.lock (Unit {0}) c.args.pass.now c.seek.new.pass c.requires.point c.seek.ensures.steps

pub returns-clause-takes : goal.returns-clause-takes
returns-clause-takes g c = λ e. grab-takes c.args.site.now c.args.lock (Unit {0}) c.args.pass.now c.seek.new.pass c.requires.point c.seek.ensures.steps c.grab.new.pass c.grab.result c.grab.ensures.steps (eqb-true c.grab.result 0 e)

pub returns-clause-missed : goal.returns-clause-missed
returns-clause-missed g c = λ e. grab-missed c.args.site.now c.args.lock (Unit {0}) c.args.pass.now c.seek.new.pass c.requires.point c.seek.ensures.steps c.grab.new.pass c.grab.result c.grab.ensures.steps (eqb-false c.grab.result 0 e)

pub returns-clause-nodes : goal.returns-clause-nodes
returns-clause-nodes g c = grab-nodes c.args.site.now c.args.lock (Unit {0}) c.args.pass.now c.seek.new.pass c.requires.point c.seek.ensures.steps c.grab.new.pass c.grab.result c.grab.ensures.steps c.requires.told.depth

pub returns-clause-from : goal.returns-clause-from
returns-clause-from g c = λ e. grab-from c.args.site.now c.args.lock (Unit {0}) c.args.pass.now c.seek.new.pass c.requires.point c.seek.ensures.steps c.grab.new.pass c.grab.result c.grab.ensures.steps (eqb-true c.grab.result 0 e)
