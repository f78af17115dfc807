use Rattle.std.proofs.Common.{ap, ◌∙◌, ◌++◌}
use Rattle.std.specs.Prelude.{decimal}
use Rattle.lock_words.proofs.Adding.{three}
use Rattle.lock_words.proofs.texts.add_last.Goals as goal

pub returns-in-Some-clause-text : goal.returns-in-Some-clause-text
returns-in-Some-clause-text c = rw c.in-Some.is (three _ _ _ _ _ _ _ c.add-in-Some.ensures (c.add_number.ensures.text ∙ ap (λ n. c.add-in-Some.new.self ++ decimal n) c.from.ensures) c.add-in-Some-2.ensures)
