use Rattle.mutex_word.proofs.Lawful.{stated, released}
use Rattle.mutex_word.proofs.word_steps.release_step.Goals as goal

pub returns-clause-lawful : goal.returns-clause-lawful
returns-clause-lawful c = λ m me s holds. released c.in-Some.owner m me c.pack.result c.if-owner.false c.pack.ensures (stated c.args.word c.in-Some.owner m c.in-Some.ensures.1 s) holds
