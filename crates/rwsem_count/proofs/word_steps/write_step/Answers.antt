use Rattle.std.proofs.Common.{◌≢◌, ◌/◌, ◌%◌, false, refl}
use Rattle.lock_core.proofs.HandLaws.{not-both}
use Rattle.rwsem_count.proofs.Lawful.{asked, took-lawfully}
use Rattle.rwsem_count.proofs.word_steps.write_step.Goals as goal

pub returns-in-true-false-clause-lawful : goal.returns-in-true-false-clause-lawful
returns-in-true-false-clause-lawful c = λ s me before after states told. let quiet : c.args.word / 4 % 2 ≢ 1 = (λ is. not-both false refl (c.in-true-false.ensures'.1 is)) in asked c.args.word s me before after quiet states told.there

pub returns-in-false-default-clause-lawful : goal.returns-in-false-default-clause-lawful
returns-in-false-default-clause-lawful c = λ s me before after states told. took-lawfully c.args.word c.taken.result s me before after c.args.alone (λ locked. not-both false refl (c.in-false-default.ensures.1 locked)) states told.there told.only c.taken.ensures
