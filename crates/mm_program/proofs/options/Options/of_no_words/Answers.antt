use Rattle.mm_program.proofs.CommandLines.{no_words}
use Rattle.mm_program.proofs.options.Options.of_no_words.Goals as goal

pub returns : goal.returns
returns c = no_words
