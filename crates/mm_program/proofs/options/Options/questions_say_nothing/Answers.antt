-- The lemma is the law.
use Rattle.mm_program.proofs.CommandLines.{questions_say_nothing as law}
use Rattle.mm_program.proofs.options.Options.questions_say_nothing.Goals as goal

pub returns : goal.returns
returns c = law
