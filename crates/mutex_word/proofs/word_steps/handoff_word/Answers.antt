use Rattle.mutex_word.proofs.Lawful.{stated, handed}
use Rattle.mutex_word.proofs.word_steps.handoff_word.Goals as goal

pub returns-clause-lawful : goal.returns-clause-lawful
returns-clause-lawful c = λ m me s holds is-first. handed c.in-Some.owner m me c.pack.result c.args.first c.requires.first is-first (rw c.is_some.ensures at c.pack.ensures) (stated c.args.word c.in-Some.owner m c.in-Some.ensures.1 s)
