-- The lemma is the law.
use Rattle.word_bits.proofs.Unavailables.{owned_names_task as law}
use Rattle.word_bits.proofs.laws.owned_names_task.Goals as goal

pub returns : goal.returns
returns c = law
