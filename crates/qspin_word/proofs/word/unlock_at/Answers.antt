use Rattle.std.proofs.Common.{rules}
use Rattle.qspin_word.proofs.Noting.{same-past}
use Rattle.qspin_word.proofs.Going.{frees-told}
use Rattle.qspin_word.proofs.word.unlock_at.Goals as goal

pub returns-clause-on : goal.returns-clause-on
returns-clause-on g c = record { own = search rules; goes_on = λ p t. same-past c.release.new.pass c.note.new.pass c.note.ensures.same p (c.release.ensures.steps.goes_on p t); last = search rules }

pub returns-clause-told : goal.returns-clause-told
returns-clause-told g c = λ many told. frees-told c.args.lock c.args.pass.now c.release.new.pass c.note.new.pass c.requires.held c.args.site.now c.release.ensures.steps (c.note.ensures.noted many) told
