use Rattle.lock_words.proofs.Adding.{three}
use Rattle.lock_words.proofs.texts.add_holds.Goals as goal

pub returns-then-pickup-clause-text : goal.returns-then-pickup-clause-text
returns-then-pickup-clause-text c = rw c.if-pickup.true (three _ _ _ _ _ _ _ c.add.ensures c.add_who.ensures.text c.add-then-pickup.ensures)
