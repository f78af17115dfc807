use Rattle.rwsem_count.proofs.Lawful.{reader-in}
use Rattle.rwsem_count.proofs.word_steps.read_free.Goals as goal

pub returns-then-word-eq0-clause-lawful : goal.returns-then-word-eq0-clause-lawful
returns-then-word-eq0-clause-lawful c = λ free. reader-in c.args.word c.if-word-eq0.true
