use Rattle.std.proofs.Common.{sym, ◌∙◌}
use Rattle.qspin_queue.proofs.Contending.{none-told}
use Rattle.qspin_queue.proofs.queue.begin_notes.Goals as goal

pub returns-then-LOCKS-eq1-clause-told : goal.returns-then-LOCKS-eq1-clause-told
returns-then-LOCKS-eq1-clause-told g c = none-told c.args.pass.now c.note_none.new.self c.note_none.ensures (c.requires.alone (sym c.LOCKS.ensures ∙ c.if-LOCKS-eq1.true))
