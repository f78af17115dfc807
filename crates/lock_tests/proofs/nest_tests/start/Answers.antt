use Rattle.qspin_queue.proofs.Interrupting.{told-forgot, out-forgot}
use Rattle.lock_tests.proofs.nest_tests.start.Goals as goal

pub returns-clause-told : goal.returns-clause-told
returns-clause-told g c = told-forgot c.args.pass.now c.begin.new.pass c.begin.ensures.nest c.begin.ensures.beside.0 c.requires.idle.told

pub returns-clause-out : goal.returns-clause-out
returns-clause-out g c = out-forgot c.args.pass.now c.begin.new.pass c.begin.ensures.beside.0 c.requires.idle.out
