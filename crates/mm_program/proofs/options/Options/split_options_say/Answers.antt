-- The lemma is the law.
use Rattle.mm_program.proofs.CommandLines.{split_options_say as law}
use Rattle.mm_program.proofs.options.Options.split_options_say.Goals as goal

pub returns : goal.returns
returns c = law
