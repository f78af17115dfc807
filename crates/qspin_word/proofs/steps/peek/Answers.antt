use Rattle.std.proofs.Common.{refl}
use Rattle.qspin_word.proofs.SpinSteps.{still-holds, peeks}
use Rattle.qspin_word.proofs.steps.peek.Goals as goal

pub word_step-requires-clause-may : goal.word_step-requires-clause-may
word_step-requires-clause-may g c = λ n ends. still-holds c.args.lock c.args.pass.now.seat.me.0.view.spin c.args.pass.now.seat.me.0.view.spin (g.H.SpinHost.may_free c.args.pass.now.seat.me.0.view) refl ends

pub word_step-requires-clause-allows : goal.word_step-requires-clause-allows
word_step-requires-clause-allows g c = peeks g.H.SpinHost.LOCKS c.args.lock c.requires.there g.H.SpinHost.spin_eight c.args.pass.now.seat.me.0.view c.args.pass.now.seat.id
