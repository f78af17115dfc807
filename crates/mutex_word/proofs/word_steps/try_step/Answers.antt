use Rattle.std.proofs.Common.{◌∙◌, ap, Some}
use Rattle.mutex_word.proofs.Lawful.{stated, taken, picked_up, asked}
use Rattle.mutex_word.proofs.word_steps.try_step.Goals as goal

pub returns-in_default-task-clause-lawful : goal.returns-in_default-task-clause-lawful
returns-in_default-task-clause-lawful c = λ m s.
    taken c.in-Some.owner m c.args.me c.pack.result c.in_default-task.is c.requires.me c.pack.ensures (stated c.args.word c.in-Some.owner m c.in-Some.ensures.1 s)

pub returns-in-true-default-clause-lawful : goal.returns-in-true-default-clause-lawful
returns-in-true-default-clause-lawful c = λ m s.
    picked_up c.in-Some.owner m c.args.me c.pack-in-true-default.result (c.in-Some-task.is ∙ ap Some c.if-task-me.true) c.in-true-default.is-0 c.in-Some.ensures.0.0 c.pack-in-true-default.ensures (stated c.args.word c.in-Some.owner m c.in-Some.ensures.1 s)

pub returns-in-false-false-clause-lawful : goal.returns-in-false-false-clause-lawful
returns-in-false-false-clause-lawful c = λ m s there.
    asked c.in-Some.owner m c.args.me c.in-Some-task.task c.pack-in-false-false.result c.in-Some-task.is c.in-false-false.is-0 c.in-Some.ensures.0.0 c.pack-in-false-false.ensures (stated c.args.word c.in-Some.owner m c.in-Some.ensures.1 s) there
