-- The lemma is the law.
use Rattle.mm_program.proofs.CommandLines.{lone_options_say as law}
use Rattle.mm_program.proofs.options.Options.lone_options_say.Goals as goal

pub returns : goal.returns
returns c = law
