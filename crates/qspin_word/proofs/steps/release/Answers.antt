use Rattle.qspin_word.proofs.SpinSteps.{frees}
use Rattle.qspin_word.proofs.steps.release.Goals as goal

pub word_step-requires-clause-allows : goal.word_step-requires-clause-allows
word_step-requires-clause-allows g c = frees g.H.SpinHost.LOCKS c.args.lock c.requires.there g.H.SpinHost.spin_eight c.args.pass.now.seat.me.0.view c.args.pass.now.seat.id c.requires.held
